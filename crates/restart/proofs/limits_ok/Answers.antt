-- `restart::limits_ok` meets its contract. Assumes nothing.
use Rattle.std.proofs.Common.{arith}
use Rattle.std.proofs.lemmas.Bool.Decides.{nat_tests}
use lib.Seq.{take-nil}
use Rattle.outstation.specs.Setup.{setup_ok, binary_classes, analog_setups, analog_outputs}
use Rattle.restart.proofs.limits_ok.Goals as goal

pub returns-then-s-ge1 : goal.returns-then-s-ge1
unfolding setup_ok binary_classes analog_setups analog_outputs
returns-then-s-ge1 c = simp take-nil (grind (arith, nat_tests))

pub returns-else-s-ge1 : goal.returns-else-s-ge1
unfolding setup_ok binary_classes analog_setups analog_outputs
returns-else-s-ge1 c = simp take-nil (grind (arith, nat_tests))
