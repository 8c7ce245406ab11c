-- The setup and its limits (document 01, "The cubicle's equipment"; document 02, 109): refusal 5 exactly when one is broken.
-- Assumes nothing.
use Rattle.std.specs.Prelude.{ℕ, Bool, not, List, [], ◌∷◌, map, leb, eqb, take}
use Rattle.laws.specs.Limits.{points_max, outputs_max, address_max, arm_time_max, confirm_time_max}
use Rattle.laws.specs.Lists.{all}
use Rattle.points.specs.Setup.{class_ok, analog_ok}
use Rattle.points.specs.declared.AnalogSetup.{AnalogSetup}
use Rattle.analog_outputs.specs.declared.AnalogOutput.{AnalogOutput}
use Rattle.analog_outputs.specs.Output.{analog_outputs_max, output_ok}
use Rattle.control.specs.Status.{Outputs}

-- what an outstation is set up with
pub record Setup : Type 0 where
  pub own : ℕ
  pub master : ℕ
  pub arm_time : ℕ
  pub confirm_time : ℕ
  pub outputs : ℕ
  pub binary_count : ℕ
  pub analog_count : ℕ
  pub classes : List ℕ
  pub analogs : List AnalogSetup
  pub analog_output_count : ℕ
  pub analog_outputs : List AnalogOutput

-- the classes of the binary inputs, and the analog inputs: the first so many of those given
unfoldable pub binary_classes : Setup → List ℕ
binary_classes u = take u.binary_count u.classes

unfoldable pub analog_setups : Setup → List AnalogSetup
analog_setups u = take u.analog_count u.analogs

-- so are the analog outputs
unfoldable pub analog_outputs : Setup → List AnalogOutput
analog_outputs u = take u.analog_output_count u.analog_outputs

-- what can be operated
abbrev pub outputs_set_up : Setup → Outputs
outputs_set_up u = record { relays = u.outputs; analog = analog_outputs u }

-- the setup breaks no limit
unfoldable pub setup_ok : Setup → Bool
setup_ok u =
    all
    -- "At most 64 binary inputs, 64 analog inputs, 16 control outputs"
    (leb u.binary_count points_max
    ∷ leb u.analog_count points_max
    ∷ leb u.outputs outputs_max
    -- "Add up to 16 analog outputs"
    ∷ leb u.analog_output_count analog_outputs_max
    -- "Own and master addresses are 0 to 65,519 and differ."
    ∷ leb u.own address_max
    ∷ leb u.master address_max
    ∷ not (eqb u.own u.master)
    -- "The arm time is 0 to 64,000 ms, the confirm time 1 to 60,000 ms."
    ∷ leb u.arm_time arm_time_max
    ∷ leb 1 u.confirm_time
    ∷ leb u.confirm_time confirm_time_max
    -- "Every input has a class 0 to 3"; gain, offset and limits of float points finite, limits not below 0
    ∷ all (map class_ok (binary_classes u))
    ∷ all (map analog_ok (analog_setups u))
    -- "allowed ends of that kind, finite, the first not above the second (else refusal 5)"
    ∷ all (map output_ok (analog_outputs u))
    ∷ [])
