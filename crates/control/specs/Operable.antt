-- What an object is that SELECT and direct operation give status 0, in plain numbers; proved in proofs/OperableLaws.antt.
-- Assumes nothing.
use Rattle.std.specs.Prelude.{◌≡◌, true, List, [], ◌∷◌, length, get_or, ℕ, ◌≤◌, ◌<◌}
use Rattle.points.specs.declared.Value.{Value}
use Rattle.analog_outputs.specs.declared.AnalogOutput.{AnalogOutput}
use Rattle.analog_outputs.specs.Output.{takes}
use Rattle.analog_outputs.specs.OutputWords.{no_output}
use Rattle.control.specs.declared.Crob.{Crob}
use Rattle.control.specs.declared.Command.{Command}
use Rattle.control.specs.declared.Command.TheVariants as C
use Rattle.control.specs.declared.ControlObject.{ControlObject}
use Rattle.control.specs.Status.{Outputs, known_code, is_pulse, on_time_max}

pub record RelayOperable (relays index : ℕ) (c : Crob) : Type 0 where
  pub output : index < relays
  pub code : known_code c.code ≡ true
  pub count : c.count ≡ 1
  -- document 02, 108: a pulse has a length, of 60,000 ms at most
  pub shortest : is_pulse c.code ≡ true → 1 ≤ c.on_time
  pub longest : is_pulse c.code ≡ true → c.on_time ≤ on_time_max

-- document 02, 109: the value is of the output's kind, finite, and not outside its ends
pub record AnalogOperable (analog : List AnalogOutput) (index : ℕ) (v : Value) : Type 0 where
  pub output : index < length analog
  pub value : takes (get_or analog index no_output) v ≡ true

-- by what is asked
abbrev pub CommandOperable : Outputs → ℕ → Command → Type 0
CommandOperable outputs index (C.Crob c) = RelayOperable outputs.relays index c
CommandOperable outputs index (C.AnalogOutput v) = AnalogOperable outputs.analog index v

pub record Operable (outputs : Outputs) (c : ControlObject) : Type 0 where
  pub status : c.status ≡ 0
  pub command : CommandOperable outputs c.index c.command

-- each of these objects
abbrev pub AllOperable : Outputs → List ControlObject → Type 0
AllOperable outputs [] = Unit {0}
AllOperable outputs (c ∷ cs) = Operable outputs c × AllOperable outputs cs
