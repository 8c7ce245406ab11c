-- `static_objects::put_point` meets its contract.
-- Assumes nothing.
use mathlib.Core.Path.{◌∙◌}
use native.Mathlib.Omega.{arith}
use lib.ListN.{length-set}
use Rattle.static_objects.proofs.StaticLaws.{length-binary, length-analog, binary-put, analog-put}
use Rattle.static_objects.proofs.put_point.Goals as goal

pub bounds-out-at : goal.bounds-out-at
bounds-out-at c = omega (arith, length-binary _ _ c.in-Binary.is)

pub bounds-out-at-in-Analog : goal.bounds-out-at-in-Analog
bounds-out-at-in-Analog c = omega (arith, length-analog _ _ _ c.in-Analog.is)

pub put_value-requires : goal.put_value-requires
put_value-requires c = simp length-set (omega (arith, length-analog _ _ _ c.in-Analog.is))

pub returns-in-Binary : goal.returns-in-Binary
returns-in-Binary c = (omega (arith, length-binary _ _ c.in-Binary.is), binary-put _ _ _ _ c.in-Binary.is)

pub shape_of-out-in-Analog : goal.shape_of-out-in-Analog
shape_of-out-in-Analog c = c.put_value.auto.out ∙ simp length-set

pub returns-in-Analog : goal.returns-in-Analog
returns-in-Analog c = (omega (arith, length-analog _ _ _ c.in-Analog.is, c.put_value.ensures.0), analog-put _ _ _ _ _ _ c.in-Analog.is c.put_value.ensures.1)
