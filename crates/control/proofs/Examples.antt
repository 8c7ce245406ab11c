-- Pulses and latches at the limits of the on-time (document 02, 108), and analog outputs at their ends (109), by computation.
-- Assumes nothing.
use mathlib.Core.Path.{◌≡◌, refl}
use mathlib.Core.Bool.{Bool, true, false}
use mathlib.Core.List.{List, [], ◌∷◌}
use Prim.Native.Nat.{ℕ}
use lib.IntN.{pos, negsuc}
use lib.Ieee.{binary32, of_bits, le}
use Rattle.points.specs.declared.Value.{Value}
use Rattle.points.specs.declared.Value.TheVariants as Vs
use Rattle.analog_outputs.specs.declared.AnalogOutput.TheVariants.{Int32, Int16, Float32}
use Rattle.analog_outputs.specs.Output.{within, within_float, takes}
use Rattle.control.specs.declared.Command.{Command}
use Rattle.control.specs.declared.Command.TheVariants as C
use Rattle.control.specs.declared.ControlObject.{ControlObject}
use Rattle.control.specs.Status.{Outputs, status_of}

-- 16 relays, and an analog output of each kind: −5 to 7, 3 to 3, +0 to −0 as bits of floats
outputs : Outputs
outputs =
    record {
      relays = 16;
      analog = Int32 (negsuc 4) (pos 7) ∷ Int16 (pos 3) (pos 3) ∷ Float32 (of_bits binary32 0) (of_bits binary32 0x80000000) ∷ [];
    }

asked : ℕ → ℕ → Command → ControlObject
asked index status command = record { index = index; status = status; command = command }

-- ---- pulses and latches, of 16 relays the last

relay : ℕ → ℕ → ℕ → ℕ → ControlObject
relay code count time status = asked 15 status (C.Crob (record { code = code; count = count; on_time = time; off_time = 0 }))

-- its status at 0, 1, 60,000 and 60,001 ms
limits : ℕ → ℕ → ℕ → Bool → List ℕ
limits code count status again =
    status_of outputs again (relay code count 0 status) ∷ status_of outputs again (relay code count 1 status)
    ∷ status_of outputs again (relay code count 60000 status) ∷ status_of outputs again (relay code count 60001 status) ∷ []

record Pulse (code : ℕ) : Type 0 where
  alone : limits code 1 0 false ≡ 4 ∷ 0 ∷ 0 ∷ 4 ∷ []
  -- "tested after the count and before the repeated index"
  counted : limits code 2 0 true ≡ 4 ∷ 4 ∷ 4 ∷ 4 ∷ []
  again : limits code 1 0 true ≡ 4 ∷ 8 ∷ 8 ∷ 4 ∷ []
  given : limits code 1 7 true ≡ 3 ∷ 3 ∷ 3 ∷ 3 ∷ []

record Latch (code : ℕ) : Type 0 where
  alone : limits code 1 0 false ≡ 0 ∷ 0 ∷ 0 ∷ 0 ∷ []
  again : limits code 1 0 true ≡ 8 ∷ 8 ∷ 8 ∷ 8 ∷ []

plain : Pulse 0x01
unfolding limits relay asked outputs
plain = record { alone = refl; counted = refl; again = refl; given = refl }

close : Pulse 0x41
unfolding limits relay asked outputs
close = record { alone = refl; counted = refl; again = refl; given = refl }

trip : Pulse 0x81
unfolding limits relay asked outputs
trip = record { alone = refl; counted = refl; again = refl; given = refl }

latch-on : Latch 0x03
unfolding limits relay asked outputs
latch-on = record { alone = refl; again = refl }

latch-off : Latch 0x04
unfolding limits relay asked outputs
latch-off = record { alone = refl; again = refl }

-- ---- analog outputs

-- the status of this value for the output, as it comes and with the index already in the request
pair : ℕ → Value → List ℕ
pair index v = status_of outputs false (asked index 0 (C.AnalogOutput v)) ∷ status_of outputs true (asked index 0 (C.AnalogOutput v)) ∷ []

good : List ℕ
good = 0 ∷ 8 ∷ []

-- "tested before the repeated index"
bad : List ℕ
bad = 4 ∷ 4 ∷ []

record WholeEnds : Type 0 where
  below : pair 0 (Vs.Int32 (negsuc 5)) ≡ bad
  low : pair 0 (Vs.Int32 (negsuc 4)) ≡ good
  high : pair 0 (Vs.Int32 (pos 7)) ≡ good
  above : pair 0 (Vs.Int32 (pos 8)) ≡ bad
  -- ends that are equal allow one value
  less : pair 1 (Vs.Int16 (pos 2)) ≡ bad
  equal : pair 1 (Vs.Int16 (pos 3)) ≡ good
  more : pair 1 (Vs.Int16 (pos 4)) ≡ bad
  -- "Another kind"
  narrow : pair 0 (Vs.Int16 (pos 0)) ≡ bad
  wide : pair 1 (Vs.Int32 (pos 3)) ≡ bad
  real : pair 1 (Vs.Float32 (of_bits binary32 0x40400000)) ≡ bad
  -- there is no fourth output, and the relays are numbered apart
  missing : pair 3 (Vs.Int32 (pos 0)) ≡ bad

whole-ends : WholeEnds
unfolding takes within within_float of_bits le pair good bad asked outputs
whole-ends =
    record {
      below = refl;
      low = refl;
      high = refl;
      above = refl;
      less = refl;
      equal = refl;
      more = refl;
      narrow = refl;
      wide = refl;
      real = refl;
      missing = refl;
    }

-- ends +0 and −0: both zeros are allowed, the smallest numbers beside them, NaN and the infinities are not
record FloatEnds : Type 0 where
  plus : pair 2 (Vs.Float32 (of_bits binary32 0)) ≡ good
  minus : pair 2 (Vs.Float32 (of_bits binary32 0x80000000)) ≡ good
  above : pair 2 (Vs.Float32 (of_bits binary32 1)) ≡ bad
  below : pair 2 (Vs.Float32 (of_bits binary32 0x80000001)) ≡ bad
  nan : pair 2 (Vs.Float32 (of_bits binary32 0x7FC00000)) ≡ bad
  infinity : pair 2 (Vs.Float32 (of_bits binary32 0x7F800000)) ≡ bad
  minus-infinity : pair 2 (Vs.Float32 (of_bits binary32 0xFF800000)) ≡ bad

float-ends : FloatEnds
unfolding takes within within_float of_bits le pair good bad asked outputs
float-ends = record { plus = refl; minus = refl; above = refl; below = refl; nan = refl; infinity = refl; minus-infinity = refl }
