-- The status of each object of SELECT and direct operation, the echo, and the objects that are carried out: one rule for CROBs and analog
-- outputs (document 02, 109: "Document 01's control rule now takes both groups").
-- Assumes nothing.
use Rattle.std.specs.Prelude.{ℕ, ◌+◌, Bool, true, not, cond, Result, Ok, Err, ◌&&◌, ◌||◌, List, [], ◌∷◌, ◌++◌, length, get_or, take, drop, ltb, eqb}
use Rattle.laws.specs.First.{first, ◌⇒◌}
use Rattle.laws.specs.Lists.{all, member}
use Rattle.analog_outputs.specs.declared.AnalogOutput.{AnalogOutput}
use Rattle.analog_outputs.specs.Output.{takes}
use Rattle.analog_outputs.specs.OutputWords.{outputs_in, no_output}
use Rattle.points.specs.declared.Value.{Value}
use Rattle.control.specs.declared.Crob.{Crob}
use Rattle.control.specs.declared.Command.{Command}
use Rattle.control.specs.declared.Command.TheVariants as C
use Rattle.control.specs.declared.ControlObject.{ControlObject}
use Rattle.control.specs.declared.Form.{Form}
use Rattle.application.specs.declared.Fault.{Fault}
use Rattle.control.specs.declared.OutputCounts.{OutputCounts}
use Rattle.control.specs.Objects.{value_size}

-- what can be operated: so many relays, which 01 calls control outputs, and these analog outputs, numbered apart
pub record Outputs : Type 0 where
  pub relays : ℕ
  pub analog : List AnalogOutput

-- those that counts and lent words stand for
abbrev pub outputs_of : OutputCounts → List ℕ → Outputs
outputs_of n ws = record { relays = n.relays; analog = take n.analog (outputs_in ws) }

-- "control code .. 01, 03, 04, 41 or 81"
abbrev pub known_code : ℕ → Bool
known_code code = member code (0x01 ∷ 0x03 ∷ 0x04 ∷ 0x41 ∷ 0x81 ∷ [])

-- document 02, 108: "codes 01, 41 and 81", IEEE 1815's pulses; 03 and 04 latch
abbrev pub is_pulse : ℕ → Bool
is_pulse code = member code (0x01 ∷ 0x41 ∷ 0x81 ∷ [])

-- "60,000 ms", the longest pulse
abbrev pub on_time_max : ℕ
on_time_max = 60000

-- "For codes 01, 41 and 81 an on-time of 0 or above 60,000 ms" (108)
abbrev pub wrong_pulse : ℕ → ℕ → Bool
wrong_pulse code on_time = is_pulse code && (eqb on_time 0 || ltb on_time_max on_time)

-- there is such a relay, the code is one of the five, the count 1, and no pulse wrong
abbrev pub relay_can : ℕ → ℕ → Crob → Bool
relay_can relays index c = all (ltb index relays ∷ known_code c.code ∷ eqb c.count 1 ∷ not (wrong_pulse c.code c.on_time) ∷ [])

-- there is such an analog output, and it takes the value
abbrev pub analog_can : List AnalogOutput → ℕ → Value → Bool
analog_can analog index v = all (ltb index (length analog) ∷ takes (get_or analog index no_output) v ∷ [])

-- what is asked of the output with this index can be done
abbrev pub can_do : Outputs → ℕ → Command → Bool
can_do outputs index (C.Crob c) = relay_can outputs.relays index c
can_do outputs index (C.AnalogOutput v) = analog_can outputs.analog index v

-- "status of each, first that applies: status byte not 0, 3; no such output, 4; control code not 01, 03, 04, 41 or 81, 4;
-- count not 1, 4; index already in this request, 8 (house); else 0"; a wrong pulse "gets status 4, tested after the count and before
-- the repeated index" (108); "Another kind, outside them, or a float that isn't finite: status 4, tested before the repeated index" (109)
abbrev pub status_of : Outputs → Bool → ControlObject → ℕ
status_of outputs again c =
    first
    (not (eqb c.status 0) ⇒ 3
    ∷ not (can_do outputs c.index c.command) ⇒ 4
    ∷ again ⇒ 8
    ∷ [])
    0

-- each in its turn, given the indices of the objects before it in the request
unfoldable pub statuses : Outputs → List ℕ → List ControlObject → List ℕ
statuses outputs earlier [] = []
statuses outputs earlier (c ∷ cs) = status_of outputs (member c.index earlier) c ∷ statuses outputs (c.index ∷ earlier) cs

unfoldable pub all_zero : List ℕ → Bool
all_zero [] = true
all_zero (s ∷ ss) = eqb s 0 && all_zero ss

-- "The answer echoes header and objects with status": the objects as they came, z bytes behind each index, the status byte replaced
unfoldable pub echoed : ℕ → ℕ → List ℕ → List ℕ → List ℕ
echoed w z [] b = []
echoed w z (s ∷ ss) b = take (w + z) b ++ s ∷ echoed w z ss (drop (w + z + 1) b)

-- header and objects
abbrev pub echo_of : ℕ → ℕ → List ℕ → List ℕ → List ℕ
echo_of w z ss o = take (3 + w) o ++ echoed w z ss (drop (3 + w) o)

-- by the form, given at least as many statuses: of a wrong one nothing
abbrev pub echo_with : Result Form Fault → List ℕ → List ℕ → List ℕ
echo_with (Err f) ss o = []
echo_with (Ok x) ss o = echo_of x.width (value_size x.kind) (take x.count ss) o

-- "Direct operation carries out those with 0", "in the order asked"
unfoldable pub chosen : List ControlObject → List ℕ → List ControlObject
chosen [] ss = []
chosen (c ∷ cs) [] = []
chosen (c ∷ cs) (s ∷ ss) = cond (eqb s 0) (c ∷ chosen cs ss) (chosen cs ss)
