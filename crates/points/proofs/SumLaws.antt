-- The kept sum: of a float gate it stays finite, its sign plus and not above the limit; of a whole gate it stays at or below the limit.
-- Assumes nothing.
use mathlib.Core.Path.{◌≡◌, refl, sym, subst}
use Prim.Native.Nat.{ℕ, zero, suc, ◌+◌, ◌*◌, ◌^◌, ◌≤◌, zero-le}
use native.Mathlib.Omega.{arith}
use mathlib.Core.Bool.{Bool, true, false, ◌||◌, cond, true≢false}
use lib.Dec.{T, ltb, le→leb}
use lib.IntN.{ℤ, nat_abs, ◌-ℤ◌}
use lib.Ieee.{
  Float,
  nan,
  inf,
  fin,
  Format,
  binary32,
  prec,
  emax,
  low,
  up,
  down,
  odd,
  units,
  round,
  sum,
  add,
  sub,
  neg,
  lt,
  eq,
  le,
  below,
  level,
  is_nan,
}
use lib.Ieee.Fits.{round_is, and_l, and_r}
use denote.Floats.{passes}
use lib.Ieee.Scale.{finite}
use borrow.Author.Tests.{ltb-false, eq-eqb}
use Rattle.points.specs.declared.Gated.{Gated}
use Rattle.points.specs.declared.Gate.{Gate}
use Rattle.points.specs.declared.Gate.TheVariants as G
use Rattle.points.specs.Scaling.{plus_zero}
use Rattle.points.specs.Setup.{float_gate_ok}
use Rattle.points.specs.Gate.{drop_sign, float_distance, total_of, gate_float, gate_whole}
use Rattle.points.specs.Kept.{plus, whole_sum_ok, float_sum_ok}
use Rattle.points.proofs.ScaleLaws.{add-no-nan}

neg-finite : (y : Float) → T (finite y) → T (finite (neg y))
unfolding neg
neg-finite nan h = elim h [ ]
neg-finite (inf _) h = elim h [ ]
neg-finite (fin s m e) h = tt

fin-no-nan : (x : Float) → T (finite x) → is_nan x ≡ false
unfolding is_nan
fin-no-nan nan h = elim h [ ]
fin-no-nan (inf _) h = elim h [ ]
fin-no-nan (fin s m e) h = refl

pub sub-no-nan : (x y : Float) → T (finite x) → T (finite y) → is_nan (sub binary32 x y) ≡ false
unfolding sub
sub-no-nan x y p q = add-no-nan binary32 x (neg y) (fin-no-nan x p) (neg-finite y q)

drop-plus : (d : Float) → is_nan d ≡ false → T (plus (drop_sign d))
unfolding is_nan drop_sign
drop-plus nan h = absurd (true≢false h)
drop-plus (inf s) h = tt
drop-plus (fin s m e) h = tt

-- the distance of two finite values has the sign plus, and may be an infinity
pub distance-plus : (a b : Float) → T (finite a) → T (finite b) → T (plus (float_distance a b))
distance-plus a b p q = drop-plus (sub binary32 a b) (sub-no-nan a b p q)

-- ---- a sum of two such values
round-plus : (f : Format) (a c : ℕ) → T (plus (round f false a c))
unfolding units odd
round-plus f a c = subst (λ (x : Float). T (plus x)) (sym (round_is f false a c)) (units-plus _ _)
  where
    odd-plus : (d q k l : ℕ) → T (plus (odd d false q k l))
    odd-plus d zero k l = tt
    odd-plus d (suc q) k l = tt

    go : (b : Bool) (q k : ℕ) → T (plus (cond b (odd (suc (prec f)) false q k (low f)) (inf false)))
    go true q k = odd-plus (suc (prec f)) q k (low f)
    go false q k = tt

    units-plus : (q k : ℕ) → T (plus (units f false q k))
    units-plus q k = go (ltb (q * 2 ^ k) (2 ^ (low f + suc (emax f)))) q k

add-plus : (x y : Float) → T (plus x) → T (finite x) → T (plus y) → T (plus (add binary32 x y))
unfolding add sum
add-plus nan y p q r = elim p [ ]
add-plus (inf _) y p q r = elim q [ ]
add-plus (fin false m e) nan p q r = elim r [ ]
add-plus (fin false m e) (inf true) p q r = elim r [ ]
add-plus (fin false m e) (fin true n d) p q r = elim r [ ]
add-plus (fin true m e) y p q r = elim p [ ]
add-plus (fin false m e) (inf false) p q r = tt
add-plus (fin false m e) (fin false n d) p q r = round-plus binary32 (m * up e * down d + n * up d * down e) (down e * down d)

-- what is not above a finite limit is no infinity
not_infinite : (l t : Float) → T (finite l) → T (plus t) → lt l t ≡ false → T (finite t)
unfolding lt
not_infinite nan t p q h = elim p [ ]
not_infinite (inf _) t p q h = elim p [ ]
not_infinite (fin s m e) nan p q h = elim q [ ]
not_infinite (fin s m e) (inf true) p q h = elim q [ ]
not_infinite (fin s m e) (inf false) p q h = absurd (true≢false h)
not_infinite (fin s m e) (fin t n d) p q h = tt

-- ---- of two finite values one is at or below the other
either : (p q : Bool) → (p ≡ false → q ≡ true) → (p || q) ≡ true
either true q h = refl
either false q h = h refl

same_size : (a b : ℕ) → a ≤ b → b ≤ a → a ≡ b
same_size a b h k = omega arith

no_size : (a b : ℕ) → a + b ≤ 0 → (a ≡ 0) × (b ≡ 0)
no_size a b h = (omega arith, omega arith)

ordered : (s t : Bool) (a b : ℕ) → below s a t b ≡ false → (below t b s a || level t b s a) ≡ true
ordered false false a b h = either (ltb b a) _ (λ k. rw (eq-eqb b a (same_size b a (ltb-false a b h) (ltb-false b a k))))
ordered true true a b h = either (ltb a b) _ (λ k. rw (eq-eqb b a (same_size b a (ltb-false a b k) (ltb-false b a h))))
ordered true false a b h = let z = no_size a b (ltb-false 0 (a + b) h) in rw (z.0, z.1)
ordered false true a b h = either (ltb 0 (b + a)) _ (λ k. let z = no_size b a (ltb-false 0 (b + a) k) in rw (z.0, z.1))

pub not-above : (l t : Float) → T (finite l) → T (finite t) → lt l t ≡ false → le t l ≡ true
unfolding lt le eq
not-above nan t p q h = elim p [ ]
not-above (inf _) t p q h = elim p [ ]
not-above (fin s m e) nan p q h = elim q [ ]
not-above (fin s m e) (inf _) p q h = elim q [ ]
not-above (fin s m e) (fin t n d) p q h = ordered s t (m * up e * down d) (n * up d * down e) h

-- ---- a float gate's sum
pub record SumOk (g : Gate Float) (sum : Float) : Type 0 where
  pub finite : T (finite sum)
  pub sign : T (plus sum)
  pub within : T (float_sum_ok g sum)

pub zero_ok : (g : Gate Float) → T (float_gate_ok g) → SumOk g plus_zero
zero_ok G.Never h = record { finite = tt; sign = tt; within = tt }
zero_ok G.AnyChange h = record { finite = tt; sign = tt; within = tt }
zero_ok (G.Beyond l) h = record { finite = tt; sign = tt; within = tt }
zero_ok (G.Summed l) h = record { finite = tt; sign = tt; within = and_r (finite l) (le plus_zero l) h }

pub float-kept : (g : Gate Float) (v r p s : Float) → T (float_gate_ok g) → T (finite v) → T (finite p) → SumOk g s →
    SumOk g (gate_float g v r p s).sum
float-kept G.Never v r p s h fv fp k = k
float-kept G.AnyChange v r p s h fv fp k = k
float-kept (G.Beyond l) v r p s h fv fp k = k
float-kept (G.Summed l) v r p s h fv fp k = go (lt l (total_of s v p)) refl
  where
    t-plus : T (plus (total_of s v p))
    t-plus = add-plus s (float_distance v p) k.sign k.finite (distance-plus v p fv fp)

    l-fin : T (finite l)
    l-fin = and_l (finite l) (le plus_zero l) h

    go : (b : Bool) → lt l (total_of s v p) ≡ b →
        SumOk (G.Summed l) (cond {A = Gated Float} b (record { pass = true; sum = plus_zero }) (record { pass = false; sum = total_of s v p })).sum
    go true e = zero_ok (G.Summed l) h
    go false e =
        let f = not_infinite l (total_of s v p) l-fin t-plus e in
        record { finite = f; sign = t-plus; within = passes _ (not-above l (total_of s v p) l-fin f e) }

-- ---- a whole gate's sum
pub summed_kept : (l : ℕ) (v r p : ℤ) (s : ℕ) → (gate_whole (G.Summed l) v r p s).sum ≤ l
summed_kept l v r p s = go (ltb l (s + nat_abs (v -ℤ p))) refl
  where
    go : (b : Bool) → ltb l (s + nat_abs (v -ℤ p)) ≡ b →
        (cond {A = Gated ℕ} b (record { pass = true; sum = 0 }) (record { pass = false; sum = s + nat_abs (v -ℤ p) })).sum ≤ l
    go true e = zero-le
    go false e = ltb-false l (s + nat_abs (v -ℤ p)) e

pub whole-kept : (g : Gate ℕ) (v r p : ℤ) (s : ℕ) → T (whole_sum_ok g (gate_whole g v r p s).sum)
whole-kept G.Never v r p s = tt
whole-kept G.AnyChange v r p s = tt
whole-kept (G.Beyond l) v r p s = tt
whole-kept (G.Summed l) v r p s = le→leb _ l (summed_kept l v r p s)
