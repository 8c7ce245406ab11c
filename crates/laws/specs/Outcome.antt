-- What a call comes to.
-- Assumes nothing.
use Rattle.std.specs.Prelude.{ℕ}

-- accepted with a value, or refused with the number of document 01's table
pub data Outcome (A : Type 0) : Type 0 where
  accepted : A → Outcome A
  refused : ℕ → Outcome A

-- the number of a refusal; 0 where the call was accepted
abbrev pub number_of : {A : Type 0} → Outcome A → ℕ
number_of (accepted a) = 0
number_of (refused k) = k
