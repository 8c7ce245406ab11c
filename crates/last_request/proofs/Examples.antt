-- Short lists of requests, the latest first, by computation.
-- Assumes nothing.
use mathlib.Core.Path.{◌≡◌, refl}
use mathlib.Core.Bool.{true, false}
use mathlib.Core.List.{List, [], ◌∷◌}
use Prim.Native.Nat.{ℕ}
use Rattle.octets.specs.Bytes.{value}
use Rattle.laws.specs.Lists.{same}
use lib.Ieee.{binary32, of_bits, le}
use Rattle.points.specs.declared.Value.TheVariants as Vs
use Rattle.analog_outputs.specs.declared.AnalogOutput.TheVariants.{Float32}
use Rattle.analog_outputs.specs.Output.{within_float, takes}
use Rattle.control.specs.declared.Command.TheVariants as C
use Rattle.control.specs.declared.ControlObject.{ControlObject}
use Rattle.control.specs.Objects.{span, objects}
use Rattle.control.specs.Status.{Outputs, statuses, all_zero, chosen}
use Rattle.select_latch.specs.Select.{operate_status, control_effect}
use Rattle.last_request.specs.Repeat.{is_repeat}
use Rattle.last_request.specs.Requests.{Request, acted, remembered_after, repeated, hands_over}

at : ℕ → List ℕ → Request
at time bytes = record { bytes = bytes; time = time; answer = [] }

-- 16 relays and one analog output, floats from −1 to 1
outputs : Outputs
outputs = record { relays = 16; analog = Float32 (of_bits binary32 0xBF800000) (of_bits binary32 0x3F800000) ∷ [] }

-- 0C 01 17 01 05 03 01 and nine 00
crob : List ℕ
crob = 0x0C ∷ 0x01 ∷ 0x17 ∷ 0x01 ∷ 0x05 ∷ 0x03 ∷ 0x01 ∷ 0 ∷ 0 ∷ 0 ∷ 0 ∷ 0 ∷ 0 ∷ 0 ∷ 0 ∷ 0 ∷ []

select : List ℕ
select = 0xC4 ∷ 0x03 ∷ crob

-- with the next sequence, and the one after it
operate : List ℕ
operate = 0xC5 ∷ 0x04 ∷ crob

later : List ℕ
later = 0xC6 ∷ 0x04 ∷ crob

asked : ControlObject
asked = record { index = 5; status = 0; command = C.Crob (record { code = 3; count = 1; on_time = 0; off_time = 0 }) }

-- C1 17, C1 17: a repeat; C1 17, C2 01, C1 17: the third is new; a READ is never a repeat
again : repeated outputs 5000 (at 0 (0xC1 ∷ 0x17 ∷ []) ∷ []) (at 0 (0xC1 ∷ 0x17 ∷ [])) ≡ true
unfolding at remembered_after is_repeat same
again = refl

read_between : repeated outputs 5000 (at 0 (0xC2 ∷ 0x01 ∷ []) ∷ at 0 (0xC1 ∷ 0x17 ∷ []) ∷ []) (at 0 (0xC1 ∷ 0x17 ∷ [])) ≡ false
unfolding at remembered_after is_repeat same
read_between = refl

read_again : repeated outputs 5000 (at 0 (0xC2 ∷ 0x01 ∷ []) ∷ []) (at 0 (0xC2 ∷ 0x01 ∷ [])) ≡ false
unfolding at remembered_after is_repeat same
read_again = refl

-- SELECT, OPERATE 5,000 later: carried out; the OPERATE again, or a new one: nothing
selected : hands_over outputs 5000 (at 1000 select ∷ []) (at 6000 operate) ≡ asked ∷ []
unfolding at outputs crob select operate asked remembered_after is_repeat same acted control_effect span value objects statuses all_zero chosen operate_status
selected = refl

operated : hands_over outputs 5000 (at 6000 operate ∷ at 1000 select ∷ []) (at 6000 operate) ≡ []
unfolding at outputs crob select operate remembered_after is_repeat same acted control_effect span value objects statuses all_zero chosen operate_status
operated = refl

not_selected : hands_over outputs 5000 (at 6000 operate ∷ at 1000 select ∷ []) (at 6000 later) ≡ []
unfolding at outputs crob select operate later remembered_after is_repeat same acted control_effect span value objects statuses all_zero chosen operate_status
not_selected = refl

-- SELECT repeated at 5,000: the arm time runs from the first
repeated-select : hands_over outputs 5000 (at 5000 select ∷ at 1000 select ∷ []) (at 6001 operate) ≡ []
unfolding at outputs crob select operate remembered_after is_repeat same acted control_effect span value objects statuses all_zero chosen operate_status
repeated-select = refl

-- ---- an analog output: 29 03 17 01 00, a zero with its sign, and the status

float : ℕ → List ℕ
float sign = 0x29 ∷ 0x03 ∷ 0x17 ∷ 0x01 ∷ 0x00 ∷ 0 ∷ 0 ∷ 0 ∷ sign ∷ 0 ∷ []

set-select : ℕ → List ℕ
set-select sign = 0xC4 ∷ 0x03 ∷ float sign

set-operate : ℕ → List ℕ
set-operate sign = 0xC5 ∷ 0x04 ∷ float sign

minus-zero : ControlObject
minus-zero = record { index = 0; status = 0; command = C.AnalogOutput (Vs.Float32 (of_bits binary32 0x80000000)) }

-- SELECT and OPERATE of −0: carried out; of +0 after −0, or of a relay after a set point and the other way: nothing
record SetPoints : Type 0 where
  same-zero : hands_over outputs 5000 (at 1000 (set-select 0x80) ∷ []) (at 6000 (set-operate 0x80)) ≡ minus-zero ∷ []
  other-zero : hands_over outputs 5000 (at 1000 (set-select 0x80) ∷ []) (at 6000 (set-operate 0)) ≡ []
  relay-after : hands_over outputs 5000 (at 1000 (set-select 0x80) ∷ []) (at 6000 operate) ≡ []
  after-relay : hands_over outputs 5000 (at 1000 select ∷ []) (at 6000 (set-operate 0x80)) ≡ []

set-points : SetPoints
unfolding at outputs crob float select operate set-select set-operate minus-zero remembered_after is_repeat same acted control_effect span value objects statuses takes within_float of_bits le all_zero chosen operate_status
set-points = record { same-zero = refl; other-zero = refl; relay-after = refl; after-relay = refl }
