-- What an object shows, as bytes: an analog's value, and a binary's flags with its state.
-- Assumes nothing.
use Rattle.std.specs.Prelude.{ℕ, ◌+◌, ◌%◌, Bool, cond, List}
use Rattle.std.specs.Float.{binary32}
use Rattle.std.specs.Float.Ieee.{to_bits}
use Rattle.std.specs.Int.{w16, w32}
use Rattle.std.proofs.Common.{of_z}
use Rattle.octets.specs.Bytes.{le}
use Rattle.points.specs.declared.Value.{Value}
use Rattle.points.specs.declared.Value.TheVariants.{Int32, Int16, Float32}

-- a 32-bit number and a 16-bit number in two's complement (`of_z`: a negative z is 2 ^ 32 + z, or 2 ^ 16 + z), a float by its IEEE 754 bits
abbrev pub value_bytes : Value → List ℕ
value_bytes (Int32 z) = le 4 (of_z w32 z)
value_bytes (Int16 z) = le 2 (of_z w16 z)
value_bytes (Float32 x) = le 4 (to_bits binary32 x)

abbrev pub value_size : Value → ℕ
value_size (Int32 z) = 4
value_size (Int16 z) = 2
value_size (Float32 x) = 4

-- a binary's flags: the state is bit 7
abbrev pub state_byte : Bool → ℕ → ℕ
state_byte state flags = flags % 128 + cond state 128 0
