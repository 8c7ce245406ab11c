-- Laws of a choice by a test, `cond t a b`, and of what an outcome tells of the tests on its way.
-- Assumes nothing.
use mathlib.Core.Path.{◌≡◌, refl}
use mathlib.Core.Bool.{Bool, true, false, cond}
use Prim.Native.Nat.{ℕ}
use Rattle.laws.specs.Outcome.{Outcome, accepted, refused}

-- what was accepted passed this test, which refuses where it is true
pub passed-no : {A : Type 0} (t : Bool) (k : ℕ) (o : Outcome A) (a : A) → cond t (refused k) o ≡ accepted a → (t ≡ false) × (o ≡ accepted a)
passed-no true k o a e = (cc, cc)
passed-no false k o a e = (refl, e)

-- both of two tests
pub both_true : (a b : Bool) → cond a b false ≡ true → (a ≡ true) × (b ≡ true)
both_true true b t = (refl, t)
both_true false b t = (t, cc)

pub cond_same : {A : Type 0} (t : Bool) (x : A) → cond t x x ≡ x
cond_same true x = refl
cond_same false x = refl
