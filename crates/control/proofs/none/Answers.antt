-- `control::none` meets its contract.
-- Assumes nothing.
use mathlib.Core.Path.{refl}
use Rattle.control.specs.Objects.{list_of}
use Rattle.control.proofs.none.Goals as goal

pub returns : goal.returns
unfolding list_of
returns c = record { objects = refl; count = refl }
