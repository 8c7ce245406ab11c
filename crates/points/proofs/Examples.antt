-- Worked cases at the edges of document 01, "Readings", each computed.
-- Assumes nothing.
use mathlib.Core.Path.{◌≡◌, refl}
use mathlib.Core.Bool.{Bool, true, false}
use Prim.Native.Nat.{ℕ}
use lib.IntN.{pos, negsuc, nat_abs, ◌-ℤ◌}
use lib.Ieee.{Float, nan, inf, fin, binary32, mul, add, sub, lt, le, ne, of_bits}
use Rattle.laws.specs.Outcome.{Outcome, accepted, refused}
use Rattle.points.specs.declared.Scale.{Scale}
use Rattle.points.specs.declared.Gate.{Gate}
use Rattle.points.specs.declared.Gate.TheVariants as G
use Rattle.points.specs.declared.Taken.{Taken}
use Rattle.points.specs.declared.Value.{Value}
use Rattle.points.specs.declared.Value.TheVariants as Vs
use Rattle.points.specs.declared.AnalogState.{AnalogState}
use Rattle.points.specs.declared.AnalogState.TheVariants as Ms
use Rattle.points.specs.declared.AnalogPoint.{AnalogPoint}
use Rattle.points.specs.Scaling.{scaled, limited_of, clamp_value, largest, one, plus_zero}
use Rattle.points.specs.Gate.{drop_sign, float_distance, gate_float, gate_whole}
use Rattle.points.specs.Reading.{is_reported, is_raised, read_whole, read_float}
use Rattle.points.specs.Setup.{limit_ok}

minus_zero : Float
minus_zero = fin true 0 (pos 0)

-- the code's constant is the largest finite value
max-literal : of_bits binary32 0x7f7f_ffff ≡ largest false
unfolding of_bits
max-literal = refl

-- the largest value times 2 overflows in the product, and no finite offset brings it back
overflow : scaled (largest false) (fin false 1 (pos 1)) (largest true) ≡ inf false
unfolding mul add
overflow = refl

-- with an offset of minus zero a value of minus zero is shown: only offset plus zero turns it into plus zero
minus-zero-shown : scaled minus_zero one minus_zero ≡ minus_zero
unfolding mul add minus_zero
minus-zero-shown = refl

-- the difference of the two ends is an infinity, which is above every finite limit
far_apart : lt (largest false) (float_distance (largest true) (largest false)) ≡ true
unfolding sub drop_sign lt
far_apart = refl

-- "any change" from plus zero to minus zero is none
zeros_equal : (gate_float G.AnyChange minus_zero plus_zero plus_zero plus_zero).pass ≡ false
unfolding ne minus_zero
zeros_equal = refl

-- and their distance is plus zero
zeros-apart : float_distance minus_zero plus_zero ≡ plus_zero
unfolding sub drop_sign minus_zero
zeros-apart = refl

-- a limit of minus zero is not below 0
minus-zero-limit : limit_ok minus_zero ≡ true
unfolding le minus_zero
minus-zero-limit = refl

-- the distance of the two ends of the 32-bit range, either way
ends : nat_abs (negsuc 2147483647 -ℤ pos 2147483647) ≡ 4294967295
ends = refl

ends-back : nat_abs (pos 2147483647 -ℤ negsuc 2147483647) ≡ 4294967295
ends-back = refl

-- so the largest limit never passes, and one less does
largest-limit : (gate_whole (G.Beyond 4294967295) (negsuc 2147483647) (pos 2147483647) (pos 0) 0).pass ≡ false
largest-limit = refl

below-largest-limit : (gate_whole (G.Beyond 4294967294) (negsuc 2147483647) (pos 2147483647) (pos 0) 0).pass ≡ true
below-largest-limit = refl

-- ---- whole readings

-- a point of class 1 that has been read, with this value and these flags shown
seen : Value → ℕ → AnalogState → AnalogPoint
seen value flags gate_state = record { class = 1; seen = true; value = value; flags = flags; reported_flags = flags; gate_state = gate_state }

raised_by : Outcome (Taken AnalogPoint) → Bool
raised_by (accepted a) = a.raised
raised_by (refused k) = false

-- a 16-bit point gates the value before clamping: 40,000 then 50,000 raises an event, and shows the same value and flags
short-before : AnalogPoint
short-before =
    seen (Vs.Int16 (pos 32767)) 33
    (Ms.Int16 (record { gate = G.AnyChange; reported_value = pos 40000; previous = pos 40000; sum = 0 }))

short-after : AnalogPoint
short-after =
    seen (Vs.Int16 (pos 32767)) 33
    (Ms.Int16 (record { gate = G.AnyChange; reported_value = pos 50000; previous = pos 50000; sum = 0 }))

before-clamping : read_whole short-before (pos 50000) 1 ≡ accepted (record { point = short-after; raised = true })
unfolding read_whole is_reported is_raised clamp_value seen short-before short-after
before-clamping = refl

-- flags alone report: the sum, this reading's distance included, is set to 0
sum-before : AnalogPoint
sum-before = seen (Vs.Int32 (pos 7)) 1 (Ms.Int32 (record { gate = G.Summed 100; reported_value = pos 3; previous = pos 7; sum = 4 }))

sum-after : AnalogPoint
sum-after = seen (Vs.Int32 (pos 9)) 0 (Ms.Int32 (record { gate = G.Summed 100; reported_value = pos 9; previous = pos 9; sum = 0 }))

flags-alone : read_whole sum-before (pos 9) 0 ≡ accepted (record { point = sum-after; raised = true })
unfolding read_whole is_reported is_raised seen sum-before sum-after
flags-alone = refl

-- ---- float readings

twice : Scale
twice = record { gain = fin false 1 (pos 1); offset = plus_zero }

-- a float point that shows the largest value with over-range, gain 2
full : Gate Float → AnalogPoint
full gate =
    seen (Vs.Float32 (largest false)) 33
    (Ms.Float32 (record { gate = gate; reported_value = largest false; previous = largest false; sum = plus_zero }) twice)

-- the gate sees the value that replaced the infinity: over-range again is no change
over-again : raised_by (read_float (full G.AnyChange) (largest false) 1) ≡ false
unfolding read_float is_reported is_raised mul add limited_of ne seen twice full raised_by
over-again = refl

-- leaving over-range is other flags, so a report under the gate "never" too
over-left : raised_by (read_float (full G.Never) one 1) ≡ true
unfolding read_float is_reported is_raised mul add limited_of seen twice full raised_by
over-left = refl

-- a NaN with flags above 31 is refusal 3, not 4
nan-first : read_float (full G.Never) nan 32 ≡ refused 3
unfolding read_float seen full
nan-first = refl

-- a whole reading of a float point is refusal 2, whatever its flags
other-kind : read_whole (full G.Never) (pos 0) 32 ≡ refused 2
unfolding read_whole seen full
other-kind = refl
