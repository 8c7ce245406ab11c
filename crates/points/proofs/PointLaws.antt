-- Every accepted reading leaves a record that is fine, and so is each record that an accepted setup and readings lead to:
-- no NaN and no infinity is shown, kept sums are within their limits, the flags last reported are those shown.
-- Assumes nothing.
use mathlib.Core.Path.{◌≡◌, refl, sym, subst}
use mathlib.Core.Bool.{Bool, true, false, not, ◌||◌, cond}
use Prim.Native.Nat.{ℕ, zero-le}
use lib.Dec.{T, eqb, le→leb}
use lib.IntN.{ℤ}
use lib.Ieee.{Float}
use lib.Ieee.Fits.{and_l, and_r}
use lib.Ieee.Scale.{finite}
use denote.Floats.{passes}
use borrow.Author.Tests.{eqb-true}
use Rattle.laws.specs.Outcome.{accepted, refused}
use Rattle.points.specs.declared.Gate.{Gate}
use Rattle.points.specs.declared.Gate.TheVariants as G
use Rattle.points.specs.declared.AnalogKind.{AnalogKind}
use Rattle.points.specs.declared.AnalogKind.TheVariants as Ks
use Rattle.points.specs.declared.AnalogSetup.{AnalogSetup}
use Rattle.points.specs.declared.AnalogState.{AnalogState}
use Rattle.points.specs.declared.AnalogState.TheVariants as Ms
use Rattle.points.specs.declared.Value.{Value}
use Rattle.points.specs.declared.Value.TheVariants as Vs
use Rattle.points.specs.declared.GateState.{GateState}
use Rattle.points.specs.declared.Scale.{Scale}
use Rattle.points.specs.Gate.{whole_gate, float_gate}
use Rattle.points.specs.declared.AnalogPoint.{AnalogPoint}
use Rattle.points.specs.Scaling.{plus_zero, scale_value, clamp_value}
use Rattle.points.specs.Reading.{
  flags_above,
  shown_flags,
  is_reported,
  is_raised,
  gate_after,
  whole_after,
  float32_after,
  whole_by,
  float_by,
  read_whole,
  read_float,
}
use Rattle.points.specs.Setup.{class_ok, scale_ok, float_gate_ok, kind_ok, analog_ok, fresh_by, fresh_analog}
use Rattle.points.specs.Kept.{
  whole_sum_ok,
  GateStateOk,
  AnalogStateOk,
  shown_ok,
  PointOk,
  AnalogAfterOk,
  Reached,
  fresh,
  whole,
  float,
}
use Rattle.points.proofs.ScaleLaws.{shown-finite}
use Rattle.points.proofs.SumLaws.{zero_ok, float-kept, whole-kept}

-- ---- the flags last reported are those shown: other flags are reported at once
pub last-shown : (seen : Bool) (flags last : ℕ) (passes : Bool) → cond (is_reported seen flags last passes) flags last ≡ flags
unfolding is_reported
last-shown false flags last b = refl
last-shown true flags last b = go (eqb flags last) refl
  where
    go : (e : Bool) → eqb flags last ≡ e → cond (not e || b) flags last ≡ flags
    go false h = refl
    go true h = pick b
      where
        pick : (c : Bool) → cond c flags last ≡ flags
        pick true = refl
        pick false = sym (eqb-true flags last h)

-- ---- the first reading raises no event, and counts as reported
pub first-silent : (reported : Bool) (class : ℕ) → is_raised false reported class ≡ false
unfolding is_raised
first-silent reported class = refl

pub first-reported : (flags last : ℕ) (passes : Bool) → is_reported false flags last passes ≡ true
unfolding is_reported
first-reported flags last b = refl

-- ---- whole points
whole-zero : (g : Gate ℕ) → T (whole_sum_ok g 0)
whole-zero G.Never = tt
whole-zero G.AnyChange = tt
whole-zero (G.Beyond l) = tt
whole-zero (G.Summed l) = le→leb 0 l zero-le

whole-gate-after-ok : (t : GateState ℤ ℕ) (z : ℤ) (r : Bool) → T (whole_sum_ok t.gate (gate_after t z r (whole_gate t z).sum 0).sum)
whole-gate-after-ok t z true = whole-zero t.gate
whole-gate-after-ok t z false = whole-kept t.gate z t.reported_value t.previous t.sum

-- a whole point's record after an accepted reading is fine, whatever it was before
pub whole-reading-ok : (p : AnalogPoint) (z : ℤ) (flags : ℕ) → AnalogAfterOk (read_whole p z flags)
unfolding read_whole
whole-reading-ok p z flags = go p.gate_state
  where
    long : (t : GateState ℤ ℕ) (b : Bool) → AnalogAfterOk (cond b (refused 4) (accepted (whole_after p t z (Vs.Int32 z) flags Ms.Int32)))
    long t true = tt
    long t false =
        record {
          gate_state = whole-gate-after-ok t z (is_reported p.seen flags p.reported_flags (whole_gate t z).pass);
          value = tt;
          flags = last-shown p.seen flags p.reported_flags (whole_gate t z).pass;
        }

    short : (t : GateState ℤ ℕ) (f : ℕ) (b : Bool) →
        AnalogAfterOk (cond b (refused 4) (accepted (whole_after p t z (Vs.Int16 (clamp_value z).value) f Ms.Int16)))
    short t f true = tt
    short t f false =
        record {
          gate_state = whole-gate-after-ok t z (is_reported p.seen f p.reported_flags (whole_gate t z).pass);
          value = tt;
          flags = last-shown p.seen f p.reported_flags (whole_gate t z).pass;
        }

    go : (m : AnalogState) → AnalogAfterOk (whole_by m p z flags)
    go (Ms.Int32 t) = long t (flags_above flags)
    go (Ms.Int16 t) = short t (shown_flags (clamp_value z).over flags) (flags_above flags)
    go (Ms.Float32 t s) = tt

-- ---- float points
float-gate-after-ok : (t : GateState Float Float) (c : Scale) (v : Float) (r : Bool) → GateStateOk t c → T (finite v) → GateStateOk (gate_after t v r (float_gate t v).sum plus_zero) c
float-gate-after-ok t c v true h f =
    let s = zero_ok t.gate h.gate in
    record { scale = h.scale; gate = h.gate; reported_value = f; previous = f; sum = s.finite; sign = s.sign; within = s.within }
float-gate-after-ok t c v false h f =
    let s =
    float-kept t.gate v t.reported_value t.previous t.sum h.gate f h.previous
    (record { finite = h.sum; sign = h.sign; within = h.within }) in
    record { scale = h.scale; gate = h.gate; reported_value = h.reported_value; previous = f; sum = s.finite; sign = s.sign; within = s.within }

pub float-reading-ok : (p : AnalogPoint) (x : Float) (flags : ℕ) → PointOk p → AnalogAfterOk (read_float p x flags)
unfolding read_float
float-reading-ok p x flags h = go p.gate_state h.gate_state
  where
    real : (t : GateState Float Float) (s : Scale) (f : ℕ) → GateStateOk t s → (a b : Bool) → finite x ≡ a →
        AnalogAfterOk (cond (not a) (refused 3) (cond b (refused 4) (accepted (float32_after p t s (scale_value s x).value f))))
    real t s f k false b e = tt
    real t s f k true true e = tt
    real t s f k true false e =
        let v = (scale_value s x).value in
        let g = and_l (finite s.gain) (finite s.offset) k.scale in
        let o = and_r (finite s.gain) (finite s.offset) k.scale in
        let w = shown-finite s x g o (passes _ e) in
        record {
          gate_state = float-gate-after-ok t s v (is_reported p.seen f p.reported_flags (float_gate t v).pass) k w;
          value = w;
          flags = last-shown p.seen f p.reported_flags (float_gate t v).pass;
        }

    go : (m : AnalogState) → AnalogStateOk m → AnalogAfterOk (float_by m p x flags)
    go (Ms.Int32 t) k = tt
    go (Ms.Int16 t) k = tt
    go (Ms.Float32 t s) k = real t s (shown_flags (scale_value s x).over flags) k (finite x) (flags_above flags) refl

-- ---- a point before its first reading
pub fresh_ok : (a : AnalogSetup) → T (analog_ok a) → PointOk (fresh_analog a)
unfolding fresh_analog
fresh_ok a h = go a.kind (and_r (class_ok a.class) (kind_ok a.kind) h)
  where
    go : (k : AnalogKind) → T (kind_ok k) → PointOk (fresh_by a.class k)
    go (Ks.Int32 g) t = record { gate_state = whole-zero g; value = tt; flags = refl }
    go (Ks.Int16 g) t = record { gate_state = whole-zero g; value = tt; flags = refl }
    go (Ks.Float32 g s) t =
        let k = and_l (float_gate_ok g) (scale_ok s) t in
        let c = and_r (float_gate_ok g) (scale_ok s) t in
        let z = zero_ok g k in
        record {
          gate_state = record { scale = c; gate = k; reported_value = tt; previous = tt; sum = tt; sign = tt; within = z.within };
          value = tt;
          flags = refl;
        }

-- ---- so always
pub reached-ok : (a : AnalogSetup) (p : AnalogPoint) → T (analog_ok a) → Reached a p → PointOk p
reached-ok a p h fresh = fresh_ok a h
reached-ok a p h (whole {p = o} z flags q r e) = subst AnalogAfterOk e (whole-reading-ok o z flags)
reached-ok a p h (float {p = o} x flags q r e) = subst AnalogAfterOk e (float-reading-ok o x flags (reached-ok a o h r))

-- no NaN and no infinity is ever shown
pub shown-never-infinite : (a : AnalogSetup) (p : AnalogPoint) (v : Float) → T (analog_ok a) → Reached a p → p.value ≡ Vs.Float32 v →
    T (finite v)
shown-never-infinite a p v h r e = go p.gate_state (subst (λ (w : Value). T (shown_ok p.gate_state w)) e (reached-ok a p h r).value)
  where
    go : (m : AnalogState) → T (shown_ok m (Vs.Float32 v)) → T (finite v)
    go (Ms.Int32 t) k = absurd k
    go (Ms.Int16 t) k = absurd k
    go (Ms.Float32 t s) k = k
