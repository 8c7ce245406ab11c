-- Laws of an array whose first c elements are in use, where a count past its size has all of it.
-- Assumes nothing.
use mathlib.Core.Path.{◌≡◌, sym, ◌∙◌}
use mathlib.Core.List.{List}
use Prim.Native.Nat.{ℕ, ◌≤◌, ◌<◌, min}
use native.Mathlib.Omega.{arith}
use lib.ListN.{length, take, get_or, length-take, get_or-eq_default}
use Rattle.laws.proofs.Loops.{get_d-in-use}

module _ {A : Type 0} where
  module _ (l : List A) (size c : ℕ) (long : length l ≡ size) where
    pub counted : length (take c l) ≡ min c size
    counted = length-take c l ∙ omega arith

    -- a read of the array, total: in use, and not
    pub read-in : (i : ℕ) (d : A) → i < min c size → get_or l i d ≡ get_or (take c l) i d
    read-in i d h = get_d-in-use l c i d d (omega arith) (omega arith)

    pub read_out : (i : ℕ) (d : A) → min c size ≤ i → d ≡ get_or (take c l) i d
    read_out i d h = sym (get_or-eq_default (take c l) d (omega (arith, counted)))
