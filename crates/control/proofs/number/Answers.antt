-- `control::number` meets its contract: a number of at most two bytes fits.
-- Assumes nothing.
use Rattle.control.proofs.ObjectLaws.{narrow}
use Rattle.control.proofs.number.Goals as goal

pub overflow_cast-result : goal.overflow_cast-result
overflow_cast-result c = record { fits = narrow c.args.w c.take.result c.requires.1 c.take.ensures.1 }
