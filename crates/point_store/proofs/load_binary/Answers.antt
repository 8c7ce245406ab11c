-- `point_store::load_binary` meets its contract. Assumes nothing.
use Rattle.point_store.proofs.PointLaws.{binary-at}
use mathlib.Core.Path.{◌∙◌}
use Rattle.point_store.proofs.load_binary.Goals as goal

pub returns : goal.returns
returns c = c.binary_of.ensures ∙ binary-at _ _ c.requires
