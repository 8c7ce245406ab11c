-- `points::float_distance` meets its contract. Assumes nothing.
use mathlib.Core.Path.{◌∙◌}
use Rattle.points.proofs.StdLaws.{drop-is}
use Rattle.points.proofs.float_distance.Goals as goal

pub returns : goal.returns
returns c = c.abs.ensures.value ∙ drop-is _
