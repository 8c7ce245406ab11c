-- The reporting gates (document 01, "Readings"): never, any change, beyond a limit, or summed beyond a limit.
-- Assumes nothing.
use Rattle.std.specs.Prelude.{Bool, true, false, not, cond, ℕ, ◌+◌, ltb, eqb, ℤ, pos, negsuc, nat_abs, ◌-ℤ◌, Float}
use Rattle.std.specs.Float.{nan, inf, fin, binary32}
use Rattle.std.specs.Float.Ieee.{add, sub, lt, ne}
use Rattle.points.specs.declared.Gate.{Gate}
use Rattle.points.specs.declared.Gate.TheVariants as G
use Rattle.points.specs.declared.Gated.{Gated}
use Rattle.points.specs.declared.GateState.{GateState}
use Rattle.points.specs.Scaling.{plus_zero}

-- ---- whole points: "Whole differences are exact and gate the value before clamping"

-- whether two whole numbers are equal
abbrev pub eq_z : ℤ → ℤ → Bool
eq_z (pos a) (pos b) = eqb a b
eq_z (pos a) (negsuc b) = false
eq_z (negsuc a) (pos b) = false
eq_z (negsuc a) (negsuc b) = eqb a b

-- whether the gate passes, and the sum after the reading.
-- "Beyond": the distance from the value last reported is above the limit. "Summed" adds the distance from the previous value
-- at each reading, reports when the sum is above the limit and then sets it to 0.
abbrev pub gate_whole : Gate ℕ → (value reported_value previous : ℤ) (sum : ℕ) → Gated ℕ
gate_whole G.Never value reported_value previous sum = record { pass = false; sum = sum }
gate_whole G.AnyChange value reported_value previous sum = record { pass = not (eq_z value reported_value); sum = sum }
gate_whole (G.Beyond limit) value reported_value previous sum = record { pass = ltb limit (nat_abs (value -ℤ reported_value)); sum = sum }
gate_whole (G.Summed limit) value reported_value previous sum =
    cond (ltb limit (sum + nat_abs (value -ℤ previous)))
    (record { pass = true; sum = 0 })
    (record { pass = false; sum = sum + nat_abs (value -ℤ previous) })

-- ---- float points: "Float steps round once each; plus and minus zero are equal."

unfoldable pub drop_sign : Float → Float
drop_sign nan = nan
drop_sign (inf s) = inf false
drop_sign (fin s m e) = fin false m e

-- the difference, rounded once, with its sign dropped
abbrev pub float_distance : Float → Float → Float
float_distance a b = drop_sign (sub binary32 a b)

-- the sum with this reading's distance added, rounded once
abbrev pub total_of : Float → Float → Float → Float
total_of sum value previous = add binary32 sum (float_distance value previous)

abbrev pub gate_float : Gate Float → (value reported_value previous sum : Float) → Gated Float
gate_float G.Never value reported_value previous sum = record { pass = false; sum = sum }
gate_float G.AnyChange value reported_value previous sum = record { pass = ne value reported_value; sum = sum }
gate_float (G.Beyond limit) value reported_value previous sum = record { pass = lt limit (float_distance value reported_value); sum = sum }
gate_float (G.Summed limit) value reported_value previous sum =
    cond (lt limit (total_of sum value previous))
    (record { pass = true; sum = plus_zero })
    (record { pass = false; sum = total_of sum value previous })

-- ---- the gates on what they work on

-- a whole reading
abbrev pub whole_gate : GateState ℤ ℕ → ℤ → Gated ℕ
whole_gate t z = gate_whole t.gate z t.reported_value t.previous t.sum

-- the value that a float point shows
abbrev pub float_gate : GateState Float Float → Float → Gated Float
float_gate t v = gate_float t.gate v t.reported_value t.previous t.sum
