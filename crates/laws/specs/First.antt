-- Tests in order: the first that holds decides.
-- Assumes nothing.
use Rattle.std.specs.Prelude.{Bool, cond, List, [], ◌∷◌}

infix 68 ◌⇒◌
-- a test, and what is given where it is the first that holds
pub data Guard (A : Type 0) : Type 0 where
  ◌⇒◌ : Bool → A → Guard A

module _ {A : Type 0} where
  -- the first test that holds decides; where none does, the last result is given
  abbrev pub first : List (Guard A) → A → A
  first [] otherwise = otherwise
  first ((test ⇒ result) ∷ rest) otherwise = cond test result (first rest otherwise)
