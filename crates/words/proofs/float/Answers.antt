-- `words::float` meets its contract. Up to the bits of infinity none are a NaN's; beyond it all are. Assumes nothing.
use Rattle.words.proofs.NumberLaws.{no_nan, all-nan}
use Rattle.words.proofs.float.Goals as goal

pub float_from_bits-result : goal.float_from_bits-result
float_from_bits-result c = no_nan c.args.bits c.if-bits-le2139095040.true

pub returns-else-bits-le2139095040 : goal.returns-else-bits-le2139095040
returns-else-bits-le2139095040 c = all-nan c.args.bits c.ranges.bits.fits c.if-bits-le2139095040.false
