-- What a setup may give a point, and a point before its first reading (document 01, "The cubicle's equipment", "Readings").
-- Assumes nothing.
use Rattle.std.specs.Prelude.{Bool, true, false, ◌&&◌, ℕ, leb, pos, Float}
use Rattle.std.specs.Float.Ieee.{le}
use Rattle.std.specs.Float.Ieee.Scale.{finite}
use Rattle.points.specs.declared.Scale.{Scale}
use Rattle.points.specs.declared.Gate.{Gate}
use Rattle.points.specs.declared.Gate.TheVariants as G
use Rattle.points.specs.declared.AnalogKind.{AnalogKind}
use Rattle.points.specs.declared.AnalogKind.TheVariants as Ks
use Rattle.points.specs.declared.AnalogSetup.{AnalogSetup}
use Rattle.points.specs.declared.Value.{Value}
use Rattle.points.specs.declared.Value.TheVariants as Vs
use Rattle.points.specs.declared.AnalogState.{AnalogState}
use Rattle.points.specs.declared.AnalogState.TheVariants as Ms
use Rattle.points.specs.declared.GateState.{GateState}
use Rattle.points.specs.declared.BinaryPoint.{BinaryPoint}
use Rattle.points.specs.declared.AnalogPoint.{AnalogPoint}
use Rattle.points.specs.Scaling.{plus_zero}

-- "Every input has a class 0 to 3"
abbrev pub class_ok : ℕ → Bool
class_ok class = leb class 3

-- "a gain and an offset, both finite"
abbrev pub scale_ok : Scale → Bool
scale_ok s = finite s.gain && finite s.offset

-- "Limits are finite and not below 0"; a whole limit, a u32, is so by its type
abbrev pub limit_ok : Float → Bool
limit_ok l = finite l && le plus_zero l

abbrev pub float_gate_ok : Gate Float → Bool
float_gate_ok G.Never = true
float_gate_ok G.AnyChange = true
float_gate_ok (G.Beyond l) = limit_ok l
float_gate_ok (G.Summed l) = limit_ok l

-- a point of each kind has a gate of its own kind, by the type
abbrev pub kind_ok : AnalogKind → Bool
kind_ok (Ks.Int32 g) = true
kind_ok (Ks.Int16 g) = true
kind_ok (Ks.Float32 g s) = float_gate_ok g && scale_ok s

abbrev pub analog_ok : AnalogSetup → Bool
analog_ok a = class_ok a.class && kind_ok a.kind

-- ---- "Before a first reading: value 0, flags 02."

abbrev pub fresh_binary : ℕ → BinaryPoint
fresh_binary class = record { class = class; seen = false; state = false; flags = 2; reported_flags = 2 }

abbrev pub fresh_gate : {V L : Type 0} → Gate L → V → L → GateState V L
fresh_gate g value sum = record { gate = g; reported_value = value; previous = value; sum = sum }

abbrev pub fresh_with : ℕ → Value → AnalogState → AnalogPoint
fresh_with class value gate_state =
    record { class = class; seen = false; value = value; flags = 2; reported_flags = 2; gate_state = gate_state }

abbrev pub fresh_by : ℕ → AnalogKind → AnalogPoint
fresh_by class (Ks.Int32 g) = fresh_with class (Vs.Int32 (pos 0)) (Ms.Int32 (fresh_gate g (pos 0) 0))
fresh_by class (Ks.Int16 g) = fresh_with class (Vs.Int16 (pos 0)) (Ms.Int16 (fresh_gate g (pos 0) 0))
fresh_by class (Ks.Float32 g s) = fresh_with class (Vs.Float32 plus_zero) (Ms.Float32 (fresh_gate g plus_zero plus_zero) s)

unfoldable pub fresh_analog : AnalogSetup → AnalogPoint
fresh_analog a = fresh_by a.class a.kind
