-- Laws of a loop that searches the first n slots of an array for an element that passes a test.
-- The invariant is one equation: whether one of the slots still to come passes is whether one of them all does.
-- Assumes nothing.
use mathlib.Core.Path.{◌≡◌, refl, sym, ap, ◌∙◌}
use mathlib.Core.Bool.{Bool, true, false}
use mathlib.Core.List.{List, [], ◌∷◌}
use Prim.Native.Nat.{ℕ, ◌+◌, ◌≤◌, ◌<◌}
use native.Mathlib.Omega.{arith}
use lib.ListN.{length, take, get_or}
use lib.Seq.{slice, slice_empty}
use Rattle.laws.specs.Lists.{some}
use Rattle.laws.proofs.Loops.{slice_front}

-- i of the n slots are passed over
pub record Searching {A : Type 0} (p : A → Bool) (l : List A) (n i : ℕ) : Type 0 where
  pub read : i ≤ n
  pub fits : n ≤ length l
  pub rest : some p (slice i n l) ≡ some p (take n l)

module _ {A : Type 0} (p : A → Bool) (l : List A) (n : ℕ) where
  pub searching-start : n ≤ length l → Searching p l n 0
  searching-start h = record { read = omega arith; fits = h; rest = refl }

  module _ (i : ℕ) (s : Searching p l n i) where
    head : (d : A) → i < n → some p (slice i n l) ≡ some p (get_or l i d ∷ slice (i + 1) n l)
    head d below = ap (some p) (slice_front (λ r. r) (λ r. r) n i i l d below s.fits)

    pub searching-more : (d : A) → i < n → p (get_or l i d) ≡ false → Searching p l n (i + 1)
    searching-more d below h =
        let no : some p (get_or l i d ∷ slice (i + 1) n l) ≡ some p (slice (i + 1) n l) = rw h in
        record { read = omega arith; fits = s.fits; rest = sym (head d below ∙ no) ∙ s.rest }

    pub searching-found : (d : A) → i < n → p (get_or l i d) ≡ true → true ≡ some p (take n l)
    searching-found d below h =
        let yes : some p (get_or l i d ∷ slice (i + 1) n l) ≡ true = rw h in
        sym (sym s.rest ∙ head d below ∙ yes)

    pub searching-end : n ≤ i → false ≡ some p (take n l)
    searching-end over =
        let same : i ≡ n = omega (arith, s.read) in
        let gone : slice i n l ≡ [] = ap (λ (k : ℕ). slice k n l) same ∙ slice_empty n l in
        sym (ap (some p) gone) ∙ s.rest
