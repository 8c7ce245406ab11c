-- Laws of a part of a list of at most n elements, `take (e - from) (drop from l)`, as the code lends it.
-- Assumes nothing.
use mathlib.Core.Path.{◌≡◌}
use mathlib.Core.List.{List}
use Prim.Native.Nat.{ℕ, ◌+◌, ◌-◌, ◌≤◌, min}
use native.Mathlib.Omega.{arith}
use lib.ListN.{length, take, drop, length-drop}
use lib.Seq.{length-take-le}
use Rattle.laws.proofs.Loops.{take_min}

module _ {A : Type 0} where
  -- the part ends n elements on, or where the list ends
  pub part-is : (n from e : ℕ) (l : List A) → from ≤ length l → e ≡ min (from + n) (length l) → take (e - from) (drop from l) ≡ take n (drop from l)
  part-is n from e l h k =
      let q : e - from ≡ min n (length (drop from l)) = simp length-drop (omega arith) in
      rw q (take_min n (drop from l))

  pub part_length : (from e : ℕ) (l : List A) → e ≤ length l → length (take (e - from) (drop from l)) ≡ e - from
  part_length from e l h = length-take-le (e - from) (drop from l) (simp length-drop (omega arith))
