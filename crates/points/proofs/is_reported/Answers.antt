-- `points::is_reported` meets its contract. Assumes nothing.
use Rattle.std.proofs.Common.{arith}
use Rattle.std.proofs.lemmas.Bool.Decides.{nat_tests}
use Rattle.points.specs.Reading.{is_reported}
use Rattle.points.proofs.is_reported.Goals as goal

pub returns-then-flags-last : goal.returns-then-flags-last
unfolding is_reported
returns-then-flags-last c = grind (arith, nat_tests)

pub returns-else-flags-last : goal.returns-else-flags-last
unfolding is_reported
returns-else-flags-last c = grind (arith, nat_tests)
