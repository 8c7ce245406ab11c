-- `point_store::binary_of` meets its contract. Assumes nothing.
use mathlib.Core.Path.{refl}
use Rattle.point_store.specs.PointWords.{binary_of}
use Rattle.point_store.proofs.binary_of.Goals as goal

pub returns : goal.returns
unfolding binary_of
returns c = refl
