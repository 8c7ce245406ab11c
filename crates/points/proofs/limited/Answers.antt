-- `points::limited` meets its contract. Assumes nothing.
use lib.Ieee.{of_bits, eq, lt, le}
use borrow.Author.Rules.{rules}
use Rattle.points.proofs.StdLaws.{limited-is}
use Rattle.points.proofs.limited.Goals as goal

pub clamp-requires : goal.clamp-requires
unfolding of_bits lt le eq
clamp-requires c = tt

pub returns : goal.returns
unfolding of_bits
returns c = rw (c.clamp.ensures.value, c.is_infinite.ensures.value) (limited-is c.args.v (search rules))
