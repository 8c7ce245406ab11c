-- Rows g, h and i of document 01's acceptance table, and statuses and faults at their limits, by computation.
-- Assumes nothing.
use mathlib.Core.Path.{◌≡◌, refl}
use mathlib.Core.List.{List, [], ◌∷◌, ◌++◌}
use Prim.Native.Nat.{ℕ}
use Rattle.octets.specs.Bytes.{value}
use Rattle.laws.specs.Lists.{same}
use Rattle.application.specs.declared.Fault.TheVariants.{ObjectUnknown, BadParameter}
use Rattle.std.specs.Prelude.{Some, None}
use lib.IntN.{pos, negsuc}
use lib.Ieee.{binary32, of_bits, le}
use Rattle.points.specs.declared.Value.TheVariants as Vs
use Rattle.analog_outputs.specs.declared.AnalogOutput.TheVariants.{Int32, Int16, Float32}
use Rattle.analog_outputs.specs.Output.{within, within_float, takes}
use Rattle.control.specs.declared.Command.TheVariants as C
use Rattle.control.specs.declared.ControlObject.{ControlObject}
use Rattle.control.specs.Objects.{span, objects}
use Rattle.control.specs.Status.{Outputs, statuses, all_zero, echoed, chosen}
use Rattle.select_latch.specs.declared.ControlGroup.TheVariants as G
use Rattle.select_latch.specs.Select.{LatchView, no_select, selected, operate_status, ControlEffect, control_effect}
use Rattle.select_latch.specs.declared.ControlFunction.TheVariants.{Select, Operate, DirectOperate, DirectOperateNoResponse}

-- 0C 01 17 01 05 03 01 and eight 00, then the status byte
pub crob : ℕ → List ℕ
crob s = 0x0C ∷ 0x01 ∷ 0x17 ∷ 0x01 ∷ 0x05 ∷ 0x03 ∷ 0x01 ∷ 0 ∷ 0 ∷ 0 ∷ 0 ∷ 0 ∷ 0 ∷ 0 ∷ 0 ∷ s ∷ []

-- 16 relays, and an analog output of each kind: −5 to 7, 3 to 3, and floats −1 to 1
pub outputs : Outputs
outputs =
    record {
      relays = 16;
      analog = Int32 (negsuc 4) (pos 7) ∷ Int16 (pos 3) (pos 3) ∷ Float32 (of_bits binary32 0xBF800000) (of_bits binary32 0x3F800000) ∷ [];
    }

pub asked : ControlObject
asked = record { index = 5; status = 0; command = C.Crob (record { code = 3; count = 1; on_time = 0; off_time = 0 }) }

pub did : List ℕ → List ControlObject → LatchView → ControlEffect
did e c l = record { fault = None; echo = e; carried = c; latch = l }

pub record Rows (t : ℕ) : Type 0 where
  -- g. C4 03: the same objects, and the latch armed
  pub g : control_effect outputs 5000 no_select Select 4 t (crob 0) ≡ did (crob 0) [] (selected G.Crob 4 t (crob 0))
  -- h. C5 04 with those objects 5,000 later: carried out; 5,001: status 01
  pub h : control_effect outputs 5000 (selected G.Crob 4 1000 (crob 0)) Operate 5 6000 (crob 0) ≡ did (crob 0) (asked ∷ []) no_select
  pub late : control_effect outputs 5000 (selected G.Crob 4 1000 (crob 0)) Operate 5 6001 (crob 0) ≡ did (crob 1) [] no_select
  -- i. C6 04 instead: 02
  pub i : control_effect outputs 5000 (selected G.Crob 4 1000 (crob 0)) Operate 6 6000 (crob 0) ≡ did (crob 2) [] no_select

pub rows : (t : ℕ) → Rows t
unfolding control_effect span value objects statuses all_zero echoed chosen operate_status same crob asked did outputs
rows t = record { g = refl; h = refl; late = refl; i = refl }

-- direct operation: two pulses, of 1 and 60,000 ms, with one index, 0 and 8; the last output and one past it; function 6 answers nothing
two : ℕ → ℕ → ℕ → ℕ → List ℕ
two i s j t =
    0x0C ∷ 0x01 ∷ 0x17 ∷ 0x02 ∷ i ∷ 0x41 ∷ 0x01 ∷ 0x01 ∷ 0 ∷ 0 ∷ 0 ∷ 0 ∷ 0 ∷ 0 ∷ 0 ∷ s ∷ j ∷ 0x81 ∷ 0x01 ∷ 0x60 ∷ 0xEA ∷ 0 ∷ 0 ∷ 0 ∷ 0 ∷ 0 ∷ 0 ∷ t ∷ []

twice : (control_effect outputs 0 no_select DirectOperate 0 0 (two 2 0 2 0)).echo ≡ two 2 0 2 8
unfolding control_effect span value objects statuses echoed two outputs
twice = refl

outside : (control_effect outputs 0 no_select DirectOperate 0 0 (two 15 0 16 0)).echo ≡ two 15 0 16 4
unfolding control_effect span value objects statuses echoed two outputs
outside = refl

given : (control_effect outputs 0 no_select Select 0 0 (two 1 7 2 0)).echo ≡ two 1 3 2 0
unfolding control_effect span value objects statuses echoed two outputs
given = refl

silent : (control_effect outputs 0 no_select DirectOperateNoResponse 0 0 (two 15 0 16 0)).echo ≡ []
unfolding control_effect span value objects statuses echoed two outputs
silent = refl

-- faults: under 3 bytes; another object; a byte after; count 0
short : (control_effect outputs 0 no_select Select 0 0 (0x0C ∷ 0x01 ∷ [])).fault ≡ Some BadParameter
unfolding control_effect span value
short = refl

other : (control_effect outputs 0 no_select Select 0 0 (0x0C ∷ 0x02 ∷ 0x17 ∷ [])).fault ≡ Some ObjectUnknown
unfolding control_effect span value
other = refl

longer : (control_effect outputs 0 no_select Select 0 0 (crob 0 ++ 0 ∷ [])).fault ≡ Some BadParameter
unfolding control_effect span value crob
longer = refl

empty : (control_effect outputs 0 no_select Select 0 0 (0x0C ∷ 0x01 ∷ 0x17 ∷ 0x00 ∷ [])).fault ≡ Some BadParameter
unfolding control_effect span value
empty = refl

-- ---- analog outputs: 29 03 28 01 00 02 00, a float's four bytes and the status

float : ℕ → ℕ → List ℕ
float sign status = 0x29 ∷ 0x03 ∷ 0x28 ∷ 0x01 ∷ 0x00 ∷ 0x02 ∷ 0x00 ∷ 0 ∷ 0 ∷ 0 ∷ sign ∷ status ∷ []

zero : ℕ → ControlObject
zero bits = record { index = 2; status = 0; command = C.AnalogOutput (Vs.Float32 (of_bits binary32 bits)) }

record Selected : Type 0 where
  -- a SELECT of +0 arms the latch for analog outputs
  select : control_effect outputs 5000 no_select Select 4 1000 (float 0 0) ≡ did (float 0 0) [] (selected G.AnalogOutput 4 1000 (float 0 0))
  -- the OPERATE with the same bytes is carried out
  operate : control_effect outputs 5000 (selected G.AnalogOutput 4 1000 (float 0 0)) Operate 5 6000 (float 0 0) ≡ did (float 0 0) (zero 0 ∷ []) no_select
  -- "plus and minus zero are different objects there"
  minus-zero : control_effect outputs 5000 (selected G.AnalogOutput 4 1000 (float 0 0)) Operate 5 6000 (float 0x80 0) ≡ did (float 0x80 2) [] no_select
  -- a latch armed for relays, whatever its bytes
  for-relays : control_effect outputs 5000 (selected G.Crob 4 1000 (float 0 0)) Operate 5 6000 (float 0 0) ≡ did (float 0 2) [] no_select

on_floats : Selected
unfolding control_effect span value objects statuses takes within_float of_bits le all_zero echoed chosen operate_status same float zero did outputs
on_floats = record { select = refl; operate = refl; minus-zero = refl; for-relays = refl }

-- two 32-bit values of one output, two 16-bit ones: 29 01 17 02, 29 02 17 02
ints : ℕ → ℕ → ℕ → ℕ → List ℕ
ints a s b t = 0x29 ∷ 0x01 ∷ 0x17 ∷ 0x02 ∷ 0 ∷ a ∷ 0 ∷ 0 ∷ 0 ∷ s ∷ 0 ∷ b ∷ 0 ∷ 0 ∷ 0 ∷ t ∷ []

shorts : ℕ → ℕ → ℕ → ℕ → List ℕ
shorts i s j t = 0x29 ∷ 0x02 ∷ 0x17 ∷ 0x02 ∷ i ∷ 3 ∷ 0 ∷ s ∷ j ∷ 3 ∷ 0 ∷ t ∷ []

record Answered : Type 0 where
  -- the second end, and the same index again; one above it, tested before the repeated index
  again : (control_effect outputs 0 no_select DirectOperate 0 0 (ints 7 0 7 0)).echo ≡ ints 7 0 7 8
  above : (control_effect outputs 0 no_select DirectOperate 0 0 (ints 7 0 8 0)).echo ≡ ints 7 0 8 4
  -- an output of another kind; one that is not there
  kind : (control_effect outputs 0 no_select DirectOperate 0 0 (shorts 1 0 0 0)).echo ≡ shorts 1 0 0 4
  missing : (control_effect outputs 0 no_select DirectOperate 0 0 (shorts 3 0 1 9)).echo ≡ shorts 3 4 1 3
  -- 41 variation 4 is no object of these
  fourth : (control_effect outputs 0 no_select Select 0 0 (0x29 ∷ 0x04 ∷ 0x17 ∷ [])).fault ≡ Some ObjectUnknown

whole_numbers : Answered
unfolding control_effect span value objects statuses takes within within_float of_bits le echoed ints shorts outputs
whole_numbers = record { again = refl; above = refl; kind = refl; missing = refl; fourth = refl }
