-- Analog outputs, which document 02 calls set points: what a setup may give one, and the values that it takes (109).
-- Assumes nothing.
use Rattle.std.specs.Prelude.{ℕ, Bool, false, ◌&&◌, [], ◌∷◌, ℤ, pos, negsuc, Float}
use Rattle.std.specs.Int.Signed.{le_z}
use Rattle.std.specs.Float.Ieee.{le}
use Rattle.std.specs.Float.Ieee.Scale.{finite}
use Rattle.laws.specs.Lists.{all}
use Rattle.points.specs.declared.Value.{Value}
use Rattle.points.specs.declared.Value.TheVariants as Vs
use Rattle.analog_outputs.specs.declared.AnalogOutput.{AnalogOutput}
use Rattle.analog_outputs.specs.declared.AnalogOutput.TheVariants.{Int32, Int16, Float32}

-- "Add up to 16 analog outputs"
abbrev pub analog_outputs_max : ℕ
analog_outputs_max = 16

-- neither below the first end nor above the second
unfoldable pub within : (low high v : ℤ) → Bool
within low high v = le_z low v && le_z v high

-- the same of floats, compared as numbers; "a float that isn't finite" is outside all ends
unfoldable pub within_float : (low high v : Float) → Bool
within_float low high v = all (finite v ∷ le low v ∷ le v high ∷ [])

-- a 16-bit number
abbrev pub holds16 : ℤ → Bool
holds16 v = within (negsuc 32767) (pos 32767) v

-- "allowed ends of that kind, finite, the first not above the second (else refusal 5)"; a 32-bit end is one by its type
unfoldable pub output_ok : AnalogOutput → Bool
output_ok (Int32 low high) = le_z low high
output_ok (Int16 low high) = all (holds16 low ∷ holds16 high ∷ le_z low high ∷ [])
output_ok (Float32 low high) = all (finite low ∷ finite high ∷ le low high ∷ [])

-- "Another kind, outside them, or a float that isn't finite": not taken. The ends themselves are
unfoldable pub takes : AnalogOutput → Value → Bool
takes (Int32 low high) (Vs.Int32 v) = within low high v
takes (Int32 low high) (Vs.Int16 v) = false
takes (Int32 low high) (Vs.Float32 v) = false
takes (Int16 low high) (Vs.Int32 v) = false
takes (Int16 low high) (Vs.Int16 v) = within low high v
takes (Int16 low high) (Vs.Float32 v) = false
takes (Float32 low high) (Vs.Int32 v) = false
takes (Float32 low high) (Vs.Int16 v) = false
takes (Float32 low high) (Vs.Float32 v) = within_float low high v
