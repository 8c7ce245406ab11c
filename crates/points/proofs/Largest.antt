-- `largest s` is the largest finite f32 of its sign, so a comparison with it tells an infinity.
-- Assumes nothing.
use mathlib.Core.Path.{◌≡◌, refl, sym, ap, ◌∙◌, subst}
use Prim.Native.Nat.{ℕ, zero, suc, ◌+◌, ◌-◌, ◌*◌, ◌^◌, ◌≤◌, ◌<◌, zero-le}
use native.Mathlib.Nat.{
  mul-one,
  mul_assoc,
  le_of_eq,
  le_trans,
  mul-le-mul,
  mul-le-mul_right,
  lt_of_mul-lt-mul_right,
  zero-mul,
}
use native.Mathlib.Omega.{arith}
use mathlib.Core.Bool.{Bool, true, false, not}
use lib.IntN.{ℤ, pos, negsuc}
use lib.Dec.{T, leb, leb→le, nleb→lt, lit≤}
use lib.Pow.{pow-add, pow_pos, pow_mono}
use lib.Ieee.{fin, binary32, up, down, lt, fits}
use borrow.Author.Tests.{le-ltb}
use Rattle.points.specs.Scaling.{largest}
use Rattle.points.proofs.Identity.{fits-says}

digits : (n : ℕ) → n < 2 ^ 24 → n ≤ 16777215
digits n h = omega arith

rest : (k : ℕ) → 104 < k → k - 104 + 104 ≡ k
rest k h = omega arith

-- m * 2 ^ e is at most (2 ^ 24 - 1) * 2 ^ 104
size-bound : (m : ℕ) (e : ℤ) → m < 2 ^ 24 → m * up e < 2 ^ 128 * down e → m * up e ≤ 16777215 * 2 ^ 104 * down e
size-bound m (pos k) a b = go (leb k 104) (leb→le k 104) (nleb→lt k 104)
  where
    go : (t : Bool) → (T t → k ≤ 104) → (T (not t) → 104 < k) → m * 2 ^ k ≤ 16777215 * 2 ^ 104 * 1
    go true h g = mul-le-mul (digits m a) (pow_mono (h tt))
    go false h g =
        let j = k - 104 in
        let e1 : m * 2 ^ j * 2 ^ 104 ≡ m * 2 ^ k = mul_assoc m (2 ^ j) (2 ^ 104) ∙ ap (λ (x : ℕ). m * x) (sym (pow-add 2 j 104) ∙ ap (λ (x : ℕ). 2 ^ x) (rest k (g tt))) in
        let l : m * 2 ^ j < 2 ^ 24 = lt_of_mul-lt-mul_right (2 ^ 104) (subst (λ (x : ℕ). x < 2 ^ 128) (sym e1) b) in
        le_trans (le_of_eq (sym e1)) (mul-le-mul_right (2 ^ 104) (digits (m * 2 ^ j) l))
size-bound m (negsuc k) a b =
    le_trans (mul-le-mul (digits m a) (pow_pos (suc k))) (mul-le-mul_right (2 ^ suc k) (lit≤ tt))

-- the same of any value that fits
magnitude : (s : Bool) (m : ℕ) (e : ℤ) → T (fits binary32 (fin s m e)) → m * up e * 1 ≤ 16777215 * 2 ^ 104 * down e
magnitude s zero e t = le_trans (le_of_eq (mul-one (0 * up e) ∙ zero-mul (up e))) zero-le
magnitude s (suc m) e t =
    let h = fits-says binary32 s m e t in
    le_trans (le_of_eq (mul-one (suc m * up e))) (size-bound (suc m) e h.0 h.2)

-- no finite value is above the largest one, or below the lowest one
pub not-above : (s : Bool) (m : ℕ) (e : ℤ) → T (fits binary32 (fin s m e)) → lt (largest false) (fin s m e) ≡ false
unfolding lt
not-above true m e t = refl
not-above false m e t = le-ltb (16777215 * 2 ^ 104 * down e) (m * up e * 1) (magnitude false m e t)

pub not-below : (s : Bool) (m : ℕ) (e : ℤ) → T (fits binary32 (fin s m e)) → lt (fin s m e) (largest true) ≡ false
unfolding lt
not-below true m e t = le-ltb (16777215 * 2 ^ 104 * down e) (m * up e * 1) (magnitude true m e t)
not-below false m e t = refl
