-- What the scaling step gives for finite operands: never a NaN, and so a finite value; and the reading itself at gain 1 and offset plus zero.
-- Assumes nothing.
use mathlib.Core.Path.{◌≡◌, refl, sym, ap, ◌∙◌}
use Prim.Native.Nat.{ℕ, zero, suc, ◌+◌, ◌-◌, ◌*◌, ◌^◌, ◌<◌}
use native.Mathlib.Omega.{arith}
use mathlib.Core.Bool.{Bool, true, false, not, ◌&&◌, beq, cond, true≢false}
use lib.IntN.{ℤ, pos}
use lib.Dec.{T, ltb, eqb}
use lib.Ieee.{
  Float,
  nan,
  inf,
  fin,
  Format,
  binary32,
  prec,
  emax,
  low,
  up,
  down,
  unlike,
  odd,
  units,
  round,
  sum,
  mul,
  add,
  fits,
  is_nan,
  to_bits,
  of_bits,
}
use lib.Ieee.Fits.{round_is}
use lib.Ieee.Bits.{of_bits-fits, to_bits-of_bits, of_bits-to_bits}
use lib.Ieee.Scale.{finite}
use borrow.Author.Tests.{ne_eqb}
use Rattle.points.specs.declared.Scale.{Scale}
use Rattle.points.specs.Scaling.{scaled, limited_of, scale_value, one, plus_zero, no_minus_zero}
use Rattle.points.proofs.Identity.{identity, zero_exp}

-- ---- no NaN
odd_no_nan : (d : ℕ) (s : Bool) (q k l : ℕ) → is_nan (odd d s q k l) ≡ false
unfolding odd is_nan
odd_no_nan d s zero k l = refl
odd_no_nan d s (suc q) k l = refl

units-no-nan : (f : Format) (s : Bool) (q k : ℕ) → is_nan (units f s q k) ≡ false
unfolding units is_nan
units-no-nan f s q k = go (ltb (q * 2 ^ k) (2 ^ (low f + suc (emax f))))
  where
    go : (b : Bool) → is_nan (cond b (odd (suc (prec f)) s q k (low f)) (inf s)) ≡ false
    go true = odd_no_nan (suc (prec f)) s q k (low f)
    go false = refl

pub round-no-nan : (f : Format) (s : Bool) (a c : ℕ) → is_nan (round f s a c) ≡ false
round-no-nan f s a c = ap is_nan (round_is f s a c) ∙ units-no-nan f s _ _

sum-no-nan : (f : Format) (s : Bool) (a : ℕ) (t : Bool) (b c : ℕ) → is_nan (sum f s a t b c) ≡ false
unfolding sum
sum-no-nan f s a t b c = go (beq s t) (ltb a b)
  where
    go : (p q : Bool) → is_nan (cond p (round f s (a + b) c) (cond q (round f t (b - a) c) (round f (s && ltb b a) (a - b) c))) ≡ false
    go true q = round-no-nan f s (a + b) c
    go false true = round-no-nan f t (b - a) c
    go false false = round-no-nan f (s && ltb b a) (a - b) c

pub mul-no-nan : (f : Format) (x y : Float) → T (finite x) → T (finite y) → is_nan (mul f x y) ≡ false
unfolding mul
mul-no-nan f nan y p q = elim p [ ]
mul-no-nan f (inf _) y p q = elim p [ ]
mul-no-nan f (fin s m e) nan p q = elim q [ ]
mul-no-nan f (fin s m e) (inf _) p q = elim q [ ]
mul-no-nan f (fin s m e) (fin t n d) p q = round-no-nan f (unlike s t) (m * up e * (n * up d)) (down e * down d)

-- the left operand may be an infinity
pub add-no-nan : (f : Format) (x y : Float) → is_nan x ≡ false → T (finite y) → is_nan (add f x y) ≡ false
unfolding add is_nan
add-no-nan f (inf s) nan p q = elim q [ ]
add-no-nan f (inf s) (inf _) p q = elim q [ ]
add-no-nan f (fin s m e) nan p q = elim q [ ]
add-no-nan f (fin s m e) (inf _) p q = elim q [ ]
add-no-nan f nan y p q = absurd (true≢false p)
add-no-nan f (inf s) (fin t n d) p q = refl
add-no-nan f (fin s m e) (fin t n d) p q = sum-no-nan f s (m * up e * down d) t (n * up d * down e) (down e * down d)

pub scaled-no-nan : (x g o : Float) → T (finite x) → T (finite g) → T (finite o) → is_nan (scaled x g o) ≡ false
scaled-no-nan x g o p q r = add-no-nan binary32 (mul binary32 x g) o (mul-no-nan binary32 x g p q) r

-- ---- what a point shows is finite
limited-finite : (v : Float) → is_nan v ≡ false → T (finite (limited_of v).value)
unfolding is_nan limited_of
limited-finite nan h = absurd (true≢false h)
limited-finite (inf s) h = tt
limited-finite (fin s m e) h = tt

pub shown-finite : (s : Scale) (x : Float) → T (finite s.gain) → T (finite s.offset) → T (finite x) → T (finite (scale_value s x).value)
shown-finite s x p q r = limited-finite (scaled x s.gain s.offset) (scaled-no-nan x s.gain s.offset r p q)

-- ---- gain 1 and offset plus zero
unlimited : (x : Float) → T (finite x) → limited_of (no_minus_zero x) ≡ record { value = no_minus_zero x; over = false }
unfolding limited_of no_minus_zero
unlimited nan h = elim h [ ]
unlimited (inf _) h = elim h [ ]
unlimited (fin s zero e) h = refl
unlimited (fin s (suc m) e) h = refl

pub shown-identity : (s : Scale) (x : Float) → s.gain ≡ one → s.offset ≡ plus_zero → T (fits binary32 x) → T (finite x) →
    scale_value s x ≡ record { value = no_minus_zero x; over = false }
shown-identity s x p q t h =
    ap (λ (g : Float). limited_of (scaled x g s.offset)) p
    ∙ ap (λ (o : Float). limited_of (scaled x one o)) q
    ∙ ap limited_of (identity x t h)
    ∙ unlimited x h

-- the same of the bits: every pattern of a finite value is given back, but minus zero's gives 0
mantissa : Float → ℕ
mantissa nan = 0
mantissa (inf s) = 0
mantissa (fin s m e) = m

not-minus-zero : (s : Bool) (m : ℕ) (e : ℤ) → T (fits binary32 (fin s (suc m) e)) → to_bits binary32 (fin s (suc m) e) ≡ 0x8000_0000 → ⊥
unfolding of_bits mantissa
not-minus-zero s m e t h =
    let z : suc m ≡ 0 = ap mantissa (sym (of_bits-to_bits binary32 (fin s (suc m) e) t) ∙ ap (of_bits binary32) h) in
    omega arith

zeros : (s : Bool) →
    to_bits binary32 (no_minus_zero (fin s 0 (pos 0))) ≡ cond (eqb (to_bits binary32 (fin s 0 (pos 0))) 0x8000_0000) 0 (to_bits binary32 (fin s 0 (pos 0)))
unfolding no_minus_zero to_bits
zeros true = refl
zeros false = refl

own_bits : (x : Float) → T (fits binary32 x) → T (finite x) →
    to_bits binary32 (no_minus_zero x) ≡ cond (eqb (to_bits binary32 x) 0x8000_0000) 0 (to_bits binary32 x)
own_bits nan t h = elim h [ ]
own_bits (inf _) t h = elim h [ ]
own_bits (fin s zero e) t h = rw (zero_exp binary32 s e t) (zeros s)
own_bits (fin s (suc m) e) t h = unfold no_minus_zero in rw (ne_eqb (to_bits binary32 (fin s (suc m) e)) 0x8000_0000 (not-minus-zero s m e t)) refl

pub no_nan : (x : Float) → T (finite x) → T (not (is_nan x))
unfolding is_nan
no_nan nan h = elim h [ ]
no_nan (inf _) h = elim h [ ]
no_nan (fin s m e) h = tt

pub identity-bits : (b : ℕ) → b < 2 ^ 32 → T (finite (of_bits binary32 b)) →
    to_bits binary32 (scaled (of_bits binary32 b) one plus_zero) ≡ cond (eqb b 0x8000_0000) 0 b
identity-bits b h t =
    let x = of_bits binary32 b in
    ap (to_bits binary32) (identity x (of_bits-fits binary32 b) t)
    ∙ own_bits x (of_bits-fits binary32 b) t
    ∙ ap (λ (n : ℕ). cond (eqb n 0x8000_0000) 0 n) (to_bits-of_bits binary32 b h (no_nan x t))
