-- `static_objects::end_run` meets its contract. Assumes nothing.
use Rattle.octets.proofs.Splice.{splice-nil}
use Rattle.std.proofs.Common.{sym}
use Rattle.static_objects.proofs.end_run.Goals as goal

pub returns-in_default : goal.returns-in_default
returns-in_default c = rw c.in_default.is (sym (splice-nil _ _))
