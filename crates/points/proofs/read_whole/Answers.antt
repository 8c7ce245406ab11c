-- `points::read_whole` meets its contract. Assumes nothing.
use mir.Facts.{to_z-of_z}
use Rattle.points.specs.Reading.{read_whole}
use Rattle.points.proofs.read_whole.Goals as goal

pub returns-in-Int32 : goal.returns-in-Int32
unfolding read_whole
returns-in-Int32 c = rw c.in-Int32.is (rw (to_z-of_z c.ranges.z) at c.read_int32.ensures)

pub returns-in-Int16 : goal.returns-in-Int16
unfolding read_whole
returns-in-Int16 c = rw c.in-Int16.is (rw (to_z-of_z c.ranges.z) at c.read_int16.ensures)

pub returns-in-Float32 : goal.returns-in-Float32
unfolding read_whole
returns-in-Float32 c = rw c.in-Float32.is
