-- `points::read_float` meets its contract. Assumes nothing.
use Rattle.std.proofs.Common.{⊎_elim}
use Rattle.points.specs.Reading.{read_float}
use Rattle.points.proofs.read_float.Goals as goal

pub returns-in-Int32 : goal.returns-in-Int32
unfolding read_float
returns-in-Int32 c = ⊎_elim (λ w. rw w.1) (λ w. rw w.1) c.in-Int32.is

pub returns-in-Float32 : goal.returns-in-Float32
unfolding read_float
returns-in-Float32 c = rw c.in-Float32.is c.read_float32.ensures
