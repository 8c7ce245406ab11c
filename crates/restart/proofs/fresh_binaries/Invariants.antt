-- `restart::fresh_binaries` meets its contract. The invariant: so many passed, and they are stored.
-- Assumes nothing.
use Rattle.points.specs.Setup.{class_ok, fresh_binary}
use Rattle.point_store.specs.PointWords.{binaries_in}
use Rattle.restart.proofs.StoringLaws.{Storing}
use Rattle.restart.proofs.fresh_binaries.Given as goal

abbrev pub invariant-loop-i : goal.invariant-loop-i
invariant-loop-i l = Storing class_ok fresh_binary l.classes (binaries_in l.initial.binaries) (binaries_in l.binaries) l.i
