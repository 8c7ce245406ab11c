-- Laws of `same`, the comparison of byte strings: what it tells, and that `==` is it.
-- Assumes nothing.
use mathlib.Core.Path.{◌≡◌, refl, sym, ap, ap₂, ◌∙◌}
use mathlib.Core.Bool.{Bool, true, false, ◌&&◌, and-false}
use mathlib.Core.List.{List, [], ◌∷◌}
use Prim.Native.Nat.{ℕ, suc}
use native.Mathlib.Omega.{arith}
use borrow.Author.Tests.{eq-eqb, eqb-true}
use lib.Dec.{eqb}
use lib.ListN.{length, take}
use lib.Pointwise.{pointwise}
use lib.Seq.{take_all}
use Rattle.std.specs.List.{list_all, zip}
use Rattle.laws.specs.Lists.{same}

pub same_refl : (a : List ℕ) → same a a ≡ true
unfolding same
same_refl [] = refl
same_refl (x ∷ xs) = rw (eq-eqb x x refl) (same_refl xs)

-- bytes that compare equal are equal
pub same-eq : (a b : List ℕ) → same a b ≡ true → a ≡ b
unfolding same
same-eq [] [] h = refl
same-eq [] (y ∷ ys) h = let z : ◌≡◌ {A = ℕ} 0 1 = cc in absurd (omega arith)
same-eq (x ∷ xs) [] h = let z : ◌≡◌ {A = ℕ} 0 1 = cc in absurd (omega arith)
same-eq (x ∷ xs) (y ∷ ys) h = go (eqb x y) refl (same-eq xs ys) h where
  go : (t : Bool) → eqb x y ≡ t → (same xs ys ≡ true → xs ≡ ys) → t && same xs ys ≡ true → x ∷ xs ≡ y ∷ ys
  go true e f k = ap₂ (λ (p : ℕ) (q : List ℕ). p ∷ q) (eqb-true x y e) (f k)
  go false e f k = let z : ◌≡◌ {A = ℕ} 0 1 = cc in absurd (omega arith)

-- `==` on slices is this comparison
pub same_as_eq : (a b : List ℕ) → pointwise eqb a b ≡ same a b
unfolding same
same_as_eq [] [] = refl
same_as_eq [] (y ∷ ys) = refl
same_as_eq (x ∷ xs) [] = refl
same_as_eq (x ∷ xs) (y ∷ ys) = ap (λ t. eqb x y && t) (same_as_eq xs ys)

-- byte strings of two lengths are not equal
pub same_lengths : (a b : List ℕ) → (length a ≡ length b → ⊥) → same a b ≡ false
unfolding same
same_lengths [] [] h = absurd (h refl)
same_lengths [] (y ∷ ys) h = refl
same_lengths (x ∷ xs) [] h = refl
same_lengths (x ∷ xs) (y ∷ ys) h = rw (same_lengths xs ys (λ e. h (ap suc e))) (and-false (eqb x y))

-- Of one length, they are compared by a test of each place, or by `starts_with`. With these two the check of `octets::equal` tells such a body that is
-- right from one that is not: its must-fail edits are refused for what they pass over.
pub same_by_places : (a b : List ℕ) → length a ≡ length b → same a b ≡ list_all (λ p. eqb p.0 p.1) (zip a b)
unfolding same
same_by_places [] [] n = refl
same_by_places [] (y ∷ ys) n = absurd (omega (arith, n))
same_by_places (x ∷ xs) [] n = absurd (omega (arith, n))
same_by_places (x ∷ xs) (y ∷ ys) n = ap (λ t. eqb x y && t) (same_by_places xs ys (omega (arith, n)))

pub same_by_front : (a b : List ℕ) → length a ≡ length b → same a b ≡ pointwise eqb a (take (length a) b)
same_by_front a b n = sym (ap (pointwise eqb a) (take_all (length a) b (omega (arith, n))) ∙ same_as_eq a b)
