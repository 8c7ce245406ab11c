-- `points::is_raised` meets its contract. Assumes nothing.
use Rattle.std.proofs.Common.{arith}
use Rattle.std.proofs.lemmas.Bool.Decides.{nat_tests}
use Rattle.points.specs.Reading.{is_raised}
use Rattle.points.proofs.is_raised.Goals as goal

pub returns-then-class-ge1 : goal.returns-then-class-ge1
unfolding is_raised
returns-then-class-ge1 c = grind (arith, nat_tests)

pub returns-else-class-ge1 : goal.returns-else-class-ge1
unfolding is_raised
returns-else-class-ge1 c = grind (arith, nat_tests)
