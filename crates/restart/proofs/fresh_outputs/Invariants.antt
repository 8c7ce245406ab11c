-- `restart::fresh_outputs` meets its contract. The invariant: so many passed, and they are stored.
-- Assumes nothing.
use Rattle.restart.specs.Restart.{given_ok}
use Rattle.analog_outputs.specs.OutputWords.{output_given, outputs_in}
use Rattle.restart.proofs.StoringLaws.{Storing}
use Rattle.restart.proofs.fresh_outputs.Given as goal

abbrev pub invariant-loop-i : goal.invariant-loop-i
invariant-loop-i l = Storing given_ok output_given l.given (outputs_in l.initial.outputs) (outputs_in l.outputs) l.i
