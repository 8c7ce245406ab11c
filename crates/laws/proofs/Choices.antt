-- Case analysis on a test that stands on both sides, and lists by tests.
-- Assumes nothing.
use Prim.Native.Nat.{ℕ, ◌≤◌}
use mathlib.Core.Path.{◌≡◌, refl, sym}
use mathlib.Core.Bool.{Bool, true, false, not, cond, ◌||◌, or_assoc}
use mathlib.Core.List.{List, [], ◌∷◌, ◌++◌, map}
use lib.ListN.{length, drop}
use lib.Seq.{drop-append-le}
use Rattle.laws.specs.Lists.{filter, some, is_nil}

-- a goal from both cases of a test
pub by {ℓ} : {P : Type ℓ} (t : Bool) → (t ≡ true → P) → (t ≡ false → P) → P
by true f g = f refl
by false f g = g refl

-- what holds of both branches holds of the branch
pub split {ℓ} : {A : Type 0} (P : A → Type ℓ) (t : Bool) {x y : A} → (t ≡ true → P x) → (t ≡ false → P y) → P (cond t x y)
split P true f g = f refl
split P false f g = g refl

module _ {A B : Type 0} where
  -- two terms that branch on one test are related where their branches are
  pub both : (R : A → B → Type 0) (t : Bool) {x y : A} {x' y' : B} → (t ≡ true → R x x') → (t ≡ false → R y y') → R (cond t x y) (cond t x' y')
  both R true f g = f refl
  both R false f g = g refl

  -- a function of a branch is a branch
  pub cond-eq : (f : A → B) (t : Bool) {x y : A} {x' y' : B} → f x ≡ x' → f y ≡ y' → f (cond t x y) ≡ cond t x' y'
  cond-eq f true p q = p
  cond-eq f false p q = q

  pub is_nil-map : (f : A → B) (l : List A) → is_nil (map f l) ≡ is_nil l
  is_nil-map f [] = refl
  is_nil-map f (a ∷ l) = refl

module _ {A : Type 0} where
  pub some-snoc : (p : A → Bool) (l : List A) (a : A) → some p (l ++ (a ∷ [])) ≡ (some p l || p a)
  some-snoc p [] a = elim (p a) as (λ t. (t || false) ≡ t) [ true ↦ refl | false ↦ refl ]
  some-snoc p (x ∷ l) a = rw (some-snoc p l a, or_assoc)

  pub some-drop-snoc : (p : A → Bool) (n : ℕ) (l : List A) (a : A) → n ≤ length l → some p (drop n (l ++ (a ∷ []))) ≡ (some p (drop n l) || p a)
  some-drop-snoc p n l a h = rw (drop-append-le n l (a ∷ [])) (some-snoc p (drop n l) a)

  -- one passes where the filter leaves one
  pub some-filter : (p : A → Bool) (l : List A) → some p l ≡ not (is_nil (filter p l))
  unfolding filter
  some-filter p [] = refl
  some-filter p (x ∷ l) = by (p x) (λ h. rw h) (λ h. rw (h, some-filter p l))

  pub is_nil-nil : (l : List A) → is_nil l ≡ true → l ≡ []
  is_nil-nil [] h = refl
  is_nil-nil (a ∷ l) h = cc

-- a test `not a || b` that fails
pub nor-left : (a b : Bool) → (not a || b) ≡ false → a ≡ true
nor-left true b h = refl
nor-left false b h = sym h
