-- What it tells that all of a list of tests hold.
-- Assumes nothing.
use mathlib.Core.Path.{◌≡◌, refl}
use mathlib.Core.Bool.{Bool, true, false}
use mathlib.Core.List.{[], ◌∷◌}
use Prim.Native.Nat.{ℕ}
use native.Mathlib.Omega.{arith}
use Rattle.laws.specs.Lists.{all}

-- a test that does not hold
pub refuted : (t : Bool) → (t ≡ true → ⊥) → t ≡ false
refuted true h = absurd (h refl)
refuted false h = refl

pub all_three : (a b d : Bool) → all (a ∷ b ∷ d ∷ []) ≡ true → (a ≡ true) × (b ≡ true) × (d ≡ true)
all_three true true true h = (refl, refl, refl)
all_three true true false h = let z : ◌≡◌ {A = ℕ} 0 1 = cc in absurd (omega arith)
all_three true false d h = let z : ◌≡◌ {A = ℕ} 0 1 = cc in absurd (omega arith)
all_three false b d h = let z : ◌≡◌ {A = ℕ} 0 1 = cc in absurd (omega arith)

pub all-four : (a b d e : Bool) → all (a ∷ b ∷ d ∷ e ∷ []) ≡ true → (a ≡ true) × (b ≡ true) × (d ≡ true) × (e ≡ true)
all-four true true true true h = (refl, refl, refl, refl)
all-four true true true false h = let z : ◌≡◌ {A = ℕ} 0 1 = cc in absurd (omega arith)
all-four true true false e h = let z : ◌≡◌ {A = ℕ} 0 1 = cc in absurd (omega arith)
all-four true false d e h = let z : ◌≡◌ {A = ℕ} 0 1 = cc in absurd (omega arith)
all-four false b d e h = let z : ◌≡◌ {A = ℕ} 0 1 = cc in absurd (omega arith)
