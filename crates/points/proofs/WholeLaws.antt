-- Whole readings: the size of a difference, equality of bits, the 16-bit range.
-- Assumes nothing.
use mathlib.Core.Path.{◌≡◌, refl, sym, ap, ◌∙◌}
use Prim.Native.Nat.{ℕ, zero, suc, ◌+◌, ◌-◌, ◌^◌, ◌<◌, ◌≤◌}
use native.Mathlib.Omega.{arith}
use mathlib.Core.Bool.{Bool, true, false, not, cond, true≢false, false≢true}
use lib.Dec.{T, ltb, eqb, ltb→lt, lit<}
use lib.IntN.{ℤ, pos, negsuc, nat_abs, sub_ℕ, ◌-ℤ◌}
use lib.Signed.{mag, lt_z}
use mir.Syntax.{Width, w16, w32}
use mir.Val.{SFits, to_z, of_z}
use mir.Facts.{to_z-of_z}
use borrow.Author.Tests.{ltb-true, ltb-false, eqb-true, eq-eqb, ne_eqb}
use Rattle.points.specs.declared.Saturated.{Saturated}
use Rattle.points.specs.Scaling.{clamp_value}
use Rattle.points.specs.Gate.{eq_z}
use Rattle.std.specs.Int.{int_max, int_min}

-- ---- the size of a difference
subℕ-size : (a b h : ℕ) → a ≤ h → b ≤ h → nat_abs (sub_ℕ a b) ≤ h
subℕ-size a b h p q = go (ltb a b) (ltb→lt a b)
  where
    go : (t : Bool) → (T t → a < b) → nat_abs (cond t (negsuc (b - suc a)) (pos (a - b))) ≤ h
    go true l = let k : a < b = l tt in omega arith
    go false l = omega arith

below-twice : (x h : ℕ) → 0 < h → x ≤ h → x < h + h
below-twice x h p q = omega arith

pub sub-size : (a b : ℤ) (h : ℕ) → mag a < h → mag b < h → nat_abs (a -ℤ b) < h + h
sub-size (pos a) (pos zero) h p q = omega arith
sub-size (pos a) (pos (suc b)) h p q = below-twice (nat_abs (sub_ℕ a (suc b))) h (omega arith) (subℕ-size a (suc b) h (omega arith) (omega arith))
sub-size (pos a) (negsuc b) h p q = omega arith
sub-size (negsuc a) (pos zero) h p q = below-twice (nat_abs (sub_ℕ 0 (suc a))) h (omega arith) (subℕ-size 0 (suc a) h (omega arith) (omega arith))
sub-size (negsuc a) (pos (suc b)) h p q = omega arith
sub-size (negsuc a) (negsuc b) h p q = below-twice (nat_abs (sub_ℕ (suc b) (suc a))) h (omega arith) (subℕ-size (suc b) (suc a) h (omega arith) (omega arith))

pub size-lt : (a b : ℤ) → SFits w32 a → SFits w32 b → nat_abs (a -ℤ b) < 2 ^ 32
size-lt a b f g = sub-size a b (2 ^ 31) f.sfits g.sfits

-- ---- equality, tested on the bits
pub eq_z-true : (a b : ℤ) → eq_z a b ≡ true → a ≡ b
eq_z-true (pos a) (pos b) h = ap pos (eqb-true a b h)
eq_z-true (pos a) (negsuc b) h = absurd (false≢true h)
eq_z-true (negsuc a) (pos b) h = absurd (false≢true h)
eq_z-true (negsuc a) (negsuc b) h = ap negsuc (eqb-true a b h)

pub eq_z-refl : (a : ℤ) → eq_z a a ≡ true
eq_z-refl (pos a) = eq-eqb a a refl
eq_z-refl (negsuc a) = eq-eqb a a refl

pub eq-bits : {w : Width} {a b : ℤ} → SFits w a → SFits w b → eqb (of_z w a) (of_z w b) ≡ eq_z a b
eq-bits {w} {a} {b} f g = go (eq_z a b) refl
  where
    go : (t : Bool) → eq_z a b ≡ t → eqb (of_z w a) (of_z w b) ≡ t
    go true e = eq-eqb (of_z w a) (of_z w b) (ap (of_z w) (eq_z-true a b e))
    go false e =
        ne_eqb (of_z w a) (of_z w b)
        (λ q. true≢false (sym (eq_z-refl a) ∙ ap (eq_z a) (sym (to_z-of_z f) ∙ ap (to_z w) q ∙ to_z-of_z g) ∙ e))

-- ---- the 16-bit range
pub within-16 : (z : ℤ) → lt_z (pos 32767) z ≡ false → lt_z z (negsuc 32767) ≡ false → SFits w16 z
within-16 (pos n) h k = let l : n ≤ 32767 = ltb-false 32767 n h in record { sfits = omega arith }
within-16 (negsuc n) h k = let l : n ≤ 32767 = ltb-false 32767 n k in record { sfits = omega arith }

-- a clamped value is a 16-bit number
pub clamped-within : (z : ℤ) → SFits w16 (clamp_value z).value
unfolding clamp_value
clamped-within z = go (lt_z (pos 32767) z) (lt_z z (negsuc 32767)) refl refl
  where
    go : (a b : Bool) → lt_z (pos 32767) z ≡ a → lt_z z (negsuc 32767) ≡ b →
        SFits w16 (cond {A = Saturated ℤ} a (record { value = pos 32767; over = true }) (cond b (record { value = negsuc 32767; over = true }) (record { value = z; over = false }))).value
    go true b h k = record { sfits = lit< tt }
    go false true h k = record { sfits = lit< tt }
    go false false h k = within-16 z h k

-- ---- the library's clamp is this crate's
abbrev pub clamped : ℤ → ℤ
clamped z = int_max (negsuc 32767) (int_min z (pos 32767))

not-top : (z : ℤ) → lt_z (pos 32767) z ≡ true → eq_z (pos 32767) z ≡ false
not-top (pos n) h = ne_eqb 32767 n (λ e. omega (arith, ltb-true 32767 n h))
not-top (negsuc n) h = refl

not-bottom : (z : ℤ) → lt_z z (negsuc 32767) ≡ true → eq_z (negsuc 32767) z ≡ false
not-bottom (pos n) h = refl
not-bottom (negsuc n) h = ne_eqb 32767 n (λ e. omega (arith, ltb-true 32767 n h))

pub clamped-is : (z : ℤ) → ◌≡◌ {A = Saturated ℤ} (record { value = clamped z; over = not (eq_z (clamped z) z) }) (clamp_value z)
unfolding clamp_value
clamped-is z = go (lt_z (pos 32767) z) (lt_z z (negsuc 32767)) refl refl
  where
    go : (a b : Bool) → lt_z (pos 32767) z ≡ a → lt_z z (negsuc 32767) ≡ b
        → ◌≡◌ {A = Saturated ℤ} (record { value = clamped z; over = not (eq_z (clamped z) z) })
        (cond (lt_z (pos 32767) z) (record { value = pos 32767; over = true }) (cond (lt_z z (negsuc 32767)) (record { value = negsuc 32767; over = true }) (record { value = z; over = false })))
    go true b h k = rw (h, not-top z h)
    go false true h k = rw (h, k, not-bottom z k)
    go false false h k = rw (h, k, eq_z-refl z)

pub clamped-fits : (z : ℤ) → SFits w16 (clamped z)
clamped-fits z = rw (ap (λ (s : Saturated ℤ). s.value) (clamped-is z)) (clamped-within z)
