-- What a point's record keeps from reading to reading, and the records that a setup and readings lead to.
-- Assumes nothing.
use Rattle.std.specs.Prelude.{◌≡◌, Bool, true, false, not, ℕ, T, leb, ℤ, Float}
use Rattle.std.specs.Float.{nan, inf, fin}
use Rattle.std.specs.Float.Ieee.{le}
use Rattle.std.specs.Float.Ieee.Scale.{finite}
use Rattle.laws.specs.Outcome.{Outcome, accepted, refused}
use Rattle.points.specs.declared.Gate.{Gate}
use Rattle.points.specs.declared.Gate.TheVariants as G
use Rattle.points.specs.declared.GateState.{GateState}
use Rattle.points.specs.declared.Scale.{Scale}
use Rattle.points.specs.declared.Taken.{Taken}
use Rattle.points.specs.declared.Value.{Value}
use Rattle.points.specs.declared.Value.TheVariants as Vs
use Rattle.points.specs.declared.AnalogState.{AnalogState}
use Rattle.points.specs.declared.AnalogState.TheVariants as Ms
use Rattle.points.specs.declared.AnalogPoint.{AnalogPoint}
use Rattle.points.specs.declared.AnalogSetup.{AnalogSetup}
use Rattle.points.specs.Reading.{read_whole, read_float}
use Rattle.points.specs.Setup.{scale_ok, float_gate_ok, fresh_analog}

-- a number or an infinity whose sign is plus
abbrev pub plus : Float → Bool
plus nan = false
plus (inf s) = not s
plus (fin s m e) = not s

-- a kept sum is not above its limit
abbrev pub whole_sum_ok : Gate ℕ → ℕ → Bool
whole_sum_ok G.Never sum = true
whole_sum_ok G.AnyChange sum = true
whole_sum_ok (G.Beyond limit) sum = true
whole_sum_ok (G.Summed limit) sum = leb sum limit

abbrev pub float_sum_ok : Gate Float → Float → Bool
float_sum_ok G.Never sum = true
float_sum_ok G.AnyChange sum = true
float_sum_ok (G.Beyond limit) sum = true
float_sum_ok (G.Summed limit) sum = le sum limit

-- a float point's numbers are finite, and its sum is neither below 0 nor above its limit
pub record GateStateOk (t : GateState Float Float) (s : Scale) : Type 0 where
  pub scale : T (scale_ok s)
  pub gate : T (float_gate_ok t.gate)
  pub reported_value : T (finite t.reported_value)
  pub previous : T (finite t.previous)
  pub sum : T (finite t.sum)
  pub sign : T (plus t.sum)
  pub within : T (float_sum_ok t.gate t.sum)

abbrev pub AnalogStateOk : AnalogState → Type 0
AnalogStateOk (Ms.Int32 t) = T (whole_sum_ok t.gate t.sum)
AnalogStateOk (Ms.Int16 t) = T (whole_sum_ok t.gate t.sum)
AnalogStateOk (Ms.Float32 t s) = GateStateOk t s

-- the shown value is of the point's kind, and no NaN and no infinity
abbrev pub shown_ok : AnalogState → Value → Bool
shown_ok (Ms.Int32 t) (Vs.Int32 z) = true
shown_ok (Ms.Int32 t) (Vs.Int16 z) = false
shown_ok (Ms.Int32 t) (Vs.Float32 v) = false
shown_ok (Ms.Int16 t) (Vs.Int32 z) = false
shown_ok (Ms.Int16 t) (Vs.Int16 z) = true
shown_ok (Ms.Int16 t) (Vs.Float32 v) = false
shown_ok (Ms.Float32 t s) (Vs.Int32 z) = false
shown_ok (Ms.Float32 t s) (Vs.Int16 z) = false
shown_ok (Ms.Float32 t s) (Vs.Float32 v) = finite v

pub record PointOk (p : AnalogPoint) : Type 0 where
  pub gate_state : AnalogStateOk p.gate_state
  pub value : T (shown_ok p.gate_state p.value)
  pub flags : p.reported_flags ≡ p.flags

-- the new record, where the reading is accepted
abbrev pub AnalogAfterOk : Outcome (Taken AnalogPoint) → Type 0
AnalogAfterOk (accepted a) = PointOk a.point
AnalogAfterOk (refused k) = Unit

-- the records that a setup and any readings lead to; a refused reading leads nowhere
pub data Reached (a : AnalogSetup) : AnalogPoint → Type 0 where
  fresh : Reached a (fresh_analog a)
  whole : {p : AnalogPoint} (z : ℤ) (flags : ℕ) (q : Taken AnalogPoint) → Reached a p → read_whole p z flags ≡ accepted q → Reached a q.point
  float : {p : AnalogPoint} (x : Float) (flags : ℕ) (q : Taken AnalogPoint) → Reached a p → read_float p x flags ≡ accepted q →
      Reached a q.point
