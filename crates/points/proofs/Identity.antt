-- Gain 1 and offset plus zero give back the reading, but minus zero gives plus zero.
-- Assumes nothing.
use mathlib.Core.Path.{◌≡◌, refl, sym, ap, ◌∙◌, subst}
use Prim.Native.Nat.{ℕ, zero, suc, ◌+◌, ◌-◌, ◌*◌, ◌/◌, ◌%◌, ◌^◌, ◌≤◌, ◌<◌, suc-le-suc, zero-le}
use native.Mathlib.Nat.{
  mul_comm,
  mul-one,
  one-mul,
  mul_assoc,
  mul_left_comm,
  mul-pos,
  add-zero,
  zero-mul,
  zero-lt-suc,
  eq_of_mul-eq-mul_right,
  lt_of_not-le,
  not-le_of_lt,
  mul-lt-mul_of_pos_right,
  pow-succ',
  sub-zero,
}
use native.Mathlib.Omega.{arith}
use mathlib.Core.Bool.{Bool, true, false, ◌&&◌, cond}
use lib.IntN.{ℤ, pos, negsuc}
use lib.Dec.{T, ltb, leb, eqb, ltb→lt, leb→le, eqb→eq}
use lib.Pow.{pow-add, pow_pos, pow-lt}
use lib.Ieee.{
  Float,
  nan,
  inf,
  fin,
  Format,
  binary32,
  prec,
  emax,
  low,
  up,
  down,
  unlike,
  size,
  top,
  hid,
  round,
  sum,
  mul,
  add,
  fits,
  to_bits,
  of_bits,
}
use lib.Ieee.Fits.{round-fits, down_pos, up_pos, and_l, and_r}
use lib.Ieee.Exact.{HasValue, round_exact}
use lib.Ieee.Nearest.{div_same}
use lib.Ieee.Scale.{finite}
use lib.Ieee.Bits.{of_bits-to_bits}
use borrow.Author.Tests.{le-ltb, lt-ltb}
use Rattle.points.specs.Scaling.{scaled, one, plus_zero, no_minus_zero}

-- the bit pattern of a sign and of a size in units of the format's smallest value
abbrev packed : Format → Bool → ℕ → ℕ
packed f s n = cond s (top f) 0 + (size n - prec f) * hid f + n / 2 ^ (size n - prec f)

packed-is : (f : Format) (s : Bool) (m : ℕ) (e : ℤ) → to_bits f (fin s m e) ≡ packed f s (m * up e * 2 ^ low f / down e)
unfolding to_bits
packed-is f s m e = refl

cross : (x y p q a c l : ℕ) → 0 < c → x * c ≡ a * p → y * c ≡ a * q → x * l * q ≡ y * l * p
cross x y p q a c l C h k =
    let h' : x * l * q * c ≡ a * p * (l * q) = simp (mul_assoc, mul_comm, mul_left_comm) (simp (mul_assoc, mul_comm, mul_left_comm) at (ap (λ (z : ℕ). z * (l * q)) h)) in
    let k' : y * l * p * c ≡ a * q * (l * p) = simp (mul_assoc, mul_comm, mul_left_comm) (simp (mul_assoc, mul_comm, mul_left_comm) at (ap (λ (z : ℕ). z * (l * p)) k)) in
    let r : a * p * (l * q) ≡ a * q * (l * p) = simp (mul_assoc, mul_comm, mul_left_comm) in
    eq_of_mul-eq-mul_right c C (x * l * q) (y * l * p) (h' ∙ r ∙ sym k')

-- two values of one sign and of one size have one bit pattern
same_bits : (f : Format) (x y : Float) (s : Bool) (a c : ℕ) → 0 < c → HasValue x s a c → HasValue y s a c → to_bits f x ≡ to_bits f y
same_bits f nan y s a c C p q = absurd p
same_bits f (inf t) y s a c C p q = absurd p
same_bits f (fin t m e) nan s a c C p q = absurd q
same_bits f (fin t m e) (inf u) s a c C p q = absurd q
same_bits f (fin t m e) (fin u n d) s a c C p q =
    packed-is f t m e
    ∙ ap (λ (z : ℕ). packed f t z)
    (div_same (m * up e * 2 ^ low f) (down e) (n * up d * 2 ^ low f) (down d) (down_pos e) (down_pos d)
    (cross (m * up e) (n * up d) (down e) (down d) a c (2 ^ low f) C p.1 q.1))
    ∙ ap (λ (z : Bool). packed f z (n * up d * 2 ^ low f / down d)) (p.0 ∙ sym q.0)
    ∙ sym (packed-is f u n d)

-- so where both fit they are the same value
pub value-unique : (f : Format) (x y : Float) (s : Bool) (a c : ℕ) → 0 < c → T (fits f x) → T (fits f y) → HasValue x s a c →
    HasValue y s a c → x ≡ y
value-unique f x y s a c C p q v w = sym (of_bits-to_bits f x p) ∙ ap (of_bits f) (same_bits f x y s a c C v w) ∙ of_bits-to_bits f y q

-- ---- a value that fits is what its own size rounds to
lowest : (k l : ℕ) → 2 ^ suc k ≤ 2 ^ l → suc k ≤ l
lowest k l h = lt_of_not-le (λ (g : l ≤ k). not-le_of_lt (pow-lt (suc-le-suc g)) h)

back : (l k : ℕ) → suc k ≤ l → l - suc k + suc k ≡ l
back l k h = omega arith

-- m * 2 ^ e in units of the format's smallest value is m * 2 ^ j
units_of : (f : Format) (s : Bool) (m : ℕ) (e : ℤ) → m < 2 ^ prec f → down e ≤ 2 ^ low f → m * up e < 2 ^ suc (emax f) * down e →
    HasValue (round f s (m * up e) (down e)) s (m * up e) (down e)
units_of f s m (pos k) a b c =
    round_exact f s (m * 2 ^ k) 1 m (k + low f) (zero-lt-suc 0) a
    (subst (λ (x : ℕ). x < 2 ^ (low f + suc (emax f))) (mul_assoc m (2 ^ k) (2 ^ low f) ∙ ap (λ (x : ℕ). m * x) (sym (pow-add 2 k (low f))))
    (subst (λ (x : ℕ). m * 2 ^ k * 2 ^ low f < x) (ap (λ (x : ℕ). x * 2 ^ low f) (mul-one (2 ^ suc (emax f))) ∙ mul_comm (2 ^ suc (emax f)) (2 ^ low f) ∙ sym (pow-add 2 (low f) (suc (emax f))))
    (mul-lt-mul_of_pos_right c (pow_pos (low f)))))
    (mul_assoc m (2 ^ k) (2 ^ low f) ∙ ap (λ (x : ℕ). m * x) (sym (pow-add 2 k (low f))) ∙ sym (mul-one (m * 2 ^ (k + low f))))
units_of f s m (negsuc k) a b c =
    let l = low f in
    let j = l - suc k in
    let e1 : 2 ^ j * 2 ^ suc k ≡ 2 ^ l = sym (pow-add 2 j (suc k)) ∙ ap (λ (x : ℕ). 2 ^ x) (back l k (lowest k l b)) in
    round_exact f s (m * 1) (2 ^ suc k) m j (pow_pos (suc k)) a
    (subst (λ (x : ℕ). x * 2 ^ j < 2 ^ (l + suc (emax f))) (mul-one m)
    (subst (λ (x : ℕ). m * 1 * 2 ^ j < x)
    (mul_assoc (2 ^ suc (emax f)) (2 ^ suc k) (2 ^ j) ∙ ap (λ (x : ℕ). 2 ^ suc (emax f) * x) (mul_comm (2 ^ suc k) (2 ^ j) ∙ e1) ∙ mul_comm (2 ^ suc (emax f)) (2 ^ l) ∙ sym (pow-add 2 l (suc (emax f))))
    (mul-lt-mul_of_pos_right c (pow_pos j))))
    (ap (λ (x : ℕ). x * 2 ^ l) (mul-one m) ∙ ap (λ (x : ℕ). m * x) (sym e1) ∙ sym (mul_assoc m (2 ^ j) (2 ^ suc k)))

-- what `fits` says of a number that is not zero
pub fits-says : (f : Format) (s : Bool) (m : ℕ) (e : ℤ) → T (fits f (fin s (suc m) e)) →
    (suc m < 2 ^ prec f) × (down e ≤ 2 ^ low f) × (suc m * up e < 2 ^ suc (emax f) * down e)
unfolding fits
fits-says f s m e t =
    let a = eqb (suc m % 2) 1 in
    let b = ltb (suc m) (2 ^ prec f) in
    let c = leb (down e) (2 ^ low f) in
    let d = ltb (suc m * up e) (2 ^ suc (emax f) * down e) in (
      ltb→lt (suc m) (2 ^ prec f) (and_r a b (and_l (a && b) c (and_l (a && b && c) d t))),
      leb→le (down e) (2 ^ low f) (and_r (a && b) c (and_l (a && b && c) d t)),
      ltb→lt (suc m * up e) (2 ^ suc (emax f) * down e) (and_r (a && b && c) d t),
    )

-- a number that fits and is not zero is what its own size rounds to
pub round-own : (f : Format) (s : Bool) (m : ℕ) (e : ℤ) → T (fits f (fin s (suc m) e)) → round f s (suc m * up e) (down e) ≡ fin s (suc m) e
round-own f s m e t =
    let h = fits-says f s m e t in
    value-unique f (round f s (suc m * up e) (down e)) (fin s (suc m) e) s (suc m * up e) (down e) (down_pos e) (round-fits f s (suc m * up e) (down e)) t
    (units_of f s (suc m) e h.0 h.1 h.2) (refl, refl)

-- ---- times one
unlike-false : (s : Bool) → unlike s false ≡ s
unlike-false true = refl
unlike-false false = refl

times-one : (f : Format) (s : Bool) (m : ℕ) (e : ℤ) → T (fits f (fin s (suc m) e)) → mul f (fin s (suc m) e) one ≡ fin s (suc m) e
unfolding mul
times-one f s m e t =
    ap (λ (u : Bool). round f u (suc m * up e * (1 * up (pos 0))) (down e * down (pos 0))) (unlike-false s)
    ∙ ap (λ (x : ℕ). round f s x (down e * 1)) (mul-one (suc m * up e))
    ∙ ap (λ (x : ℕ). round f s (suc m * up e) x) (mul-one (down e))
    ∙ round-own f s m e t

-- ---- plus plus zero
positive-size : (m : ℕ) (e : ℤ) → 0 < suc m * up e * 1
positive-size m e = mul-pos (mul-pos (zero-lt-suc m) (up_pos e)) (zero-lt-suc 0)

sum-zero : (f : Format) (s : Bool) (a c : ℕ) → 0 < a → sum f s a false 0 c ≡ round f s a c
unfolding sum
sum-zero f false a c h = ap (λ (x : ℕ). round f false x c) (add-zero a)
sum-zero f true a c h = rw (le-ltb a 0 zero-le, lt-ltb 0 a h) (ap (λ (x : ℕ). round f true x c) (sub-zero a))

plus-zero : (f : Format) (s : Bool) (m : ℕ) (e : ℤ) → T (fits f (fin s (suc m) e)) → add f (fin s (suc m) e) plus_zero ≡ fin s (suc m) e
unfolding add
plus-zero f s m e t =
    ap (λ (x : ℕ). sum f s (suc m * up e * 1) false x (down e * 1)) (zero-mul (down e))
    ∙ sum-zero f s (suc m * up e * 1) (down e * 1) (positive-size m e)
    ∙ ap (λ (x : ℕ). round f s x (down e * 1)) (mul-one (suc m * up e))
    ∙ ap (λ (x : ℕ). round f s (suc m * up e) x) (mul-one (down e))
    ∙ round-own f s m e t

-- ---- a zero
two_up : (p : ℕ) → 0 < p → 2 * p ≡ 1 → ⊥
two_up p h e = omega arith

flat : (e : ℤ) → up e * down e ≡ 1 → e ≡ pos 0
flat (pos zero) h = refl
flat (pos (suc k)) h = absurd (two_up (2 ^ k) (pow_pos k) (sym (pow-succ' 2 k) ∙ sym (mul-one (2 ^ suc k)) ∙ h))
flat (negsuc k) h = absurd (two_up (2 ^ k) (pow_pos k) (sym (pow-succ' 2 k) ∙ sym (one-mul (2 ^ suc k)) ∙ h))

pub zero_exp : (f : Format) (s : Bool) (e : ℤ) → T (fits f (fin s zero e)) → e ≡ pos 0
unfolding fits
zero_exp f s e t = flat e (eqb→eq (up e * down e) 1 t)

zero-scaled : (s : Bool) → scaled (fin s 0 (pos 0)) one plus_zero ≡ plus_zero
unfolding mul add
zero-scaled true = refl
zero-scaled false = refl

-- ---- the law
pub identity : (x : Float) → T (fits binary32 x) → T (finite x) → scaled x one plus_zero ≡ no_minus_zero x
unfolding no_minus_zero
identity nan t h = absurd h
identity (inf s) t h = absurd h
identity (fin s zero e) t h = rw (zero_exp binary32 s e t) (zero-scaled s)
identity (fin s (suc m) e) t h = rw (times-one binary32 s m e t) (plus-zero binary32 s m e t)
