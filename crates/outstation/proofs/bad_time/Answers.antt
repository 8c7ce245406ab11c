-- `outstation::bad_time` meets its contract. Assumes nothing.
use borrow.Author.Tests.{lt-leb}
use Rattle.std.proofs.Common.{arith}
use Rattle.std.proofs.lemmas.Bool.Decides.{nat_tests}
use Rattle.outstation.specs.Readings.{bad_time}
use Rattle.outstation.proofs.bad_time.Goals as goal

pub returns-then-time-ge-TIME_END : goal.returns-then-time-ge-TIME_END
unfolding bad_time
returns-then-time-ge-TIME_END c = grind (arith, nat_tests)

pub returns-else-time-ge-TIME_END : goal.returns-else-time-ge-TIME_END
unfolding bad_time
returns-else-time-ge-TIME_END c = rw (lt-leb _ _ c.if-time-ge-TIME_END.false)
