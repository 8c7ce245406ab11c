-- `point_store::analog_of` meets its contract. Assumes nothing.
use Rattle.point_store.specs.PointWords.{analog_of}
use Rattle.point_store.proofs.analog_of.Goals as goal

pub returns : goal.returns
unfolding analog_of
returns c = rw (c.value_of.ensures, c.analog_state_of.ensures)
