-- What is handed to the host over every list of calls is operable: a relay that there is, one of the five codes, count 1, and a pulse
-- with a length (document 02, 108); or an analog output that there is, and a value of its kind not outside its ends (109).
-- Assumes nothing.
use Rattle.std.specs.Prelude.{◌≡◌, true, List}
use Rattle.control.specs.Operable.{AllOperable}
use Rattle.outstation.specs.Setup.{Setup, setup_ok, outputs_set_up}
use Rattle.outstation.specs.OutstationView.{restarted}
use Rattle.outstation.specs.Lent.{Outstation, outstation_view}
use Rattle.outstation.specs.Step.{Call, Answer}
use Rattle.book.specs.Demand3.{Ran}
use Rattle.operate_safety.specs.Operated.{Gives, all_handed}

-- from any accepted setup's restart, on OPERATE and on direct operation alike
abbrev pub HandedOperable : Type 0
HandedOperable =
    (u : Setup) (o o₂ : Outstation) (cs : List Call) (ans : List Answer) → setup_ok u ≡ true → outstation_view o ≡ restarted u
    → (run : Ran Outstation Gives o cs ans o₂) → AllOperable (outputs_set_up u) (all_handed run)
