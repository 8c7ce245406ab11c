-- Laws of a loop that notes whether one of the first n slots of an array passes a test.
-- Assumes nothing.
use mathlib.Core.Path.{◌≡◌, refl, sym, ap, ◌∙◌}
use mathlib.Core.Bool.{Bool, false, ◌||◌, or-false, or_assoc}
use mathlib.Core.List.{List, []}
use Prim.Native.Nat.{ℕ, ◌+◌, ◌≤◌, ◌<◌}
use native.Mathlib.Omega.{arith}
use lib.ListN.{length, take, get_or}
use lib.Seq.{slice, slice_empty}
use Rattle.laws.specs.Lists.{some}
use Rattle.laws.proofs.Loops.{slice_front}

-- i of the n slots are looked at; seen: one of them passed
pub record Noting {A : Type 0} (p : A → Bool) (l : List A) (n : ℕ) (seen : Bool) (i : ℕ) : Type 0 where
  pub read : i ≤ n
  pub fits : n ≤ length l
  pub rest : (seen || some p (slice i n l)) ≡ some p (take n l)

module _ {A : Type 0} (p : A → Bool) (l : List A) (n : ℕ) where
  pub noting-start : n ≤ length l → Noting p l n false 0
  noting-start h = record { read = omega arith; fits = h; rest = refl }

  module _ (seen : Bool) (i : ℕ) (s : Noting p l n seen i) where
    pub noting-more : (d : A) (next : Bool) → i < n → next ≡ (seen || p (get_or l i d)) → Noting p l n next (i + 1)
    noting-more d next below e =
        let r : List A = slice (i + 1) n l in
        record {
          read = omega arith;
          fits = s.fits;
          rest =
              ap (λ (x : Bool). x || some p r) e
              ∙ or_assoc seen (p (get_or l i d)) (some p r)
              ∙ ap (λ (x : List A). seen || some p x) (sym (slice_front (λ x. x) (λ x. x) n i i l d below s.fits))
              ∙ s.rest;
        }

    pub noted : n ≤ i → seen ≡ some p (take n l)
    noted over =
        let same : i ≡ n = omega (arith, s.read) in
        let gone : slice i n l ≡ [] = ap (λ (k : ℕ). slice k n l) same ∙ slice_empty n l in
        sym (or-false seen)
        ∙ ap (λ (x : List A). seen || some p x) (sym gone)
        ∙ s.rest
