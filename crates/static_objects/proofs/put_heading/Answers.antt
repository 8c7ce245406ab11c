-- `static_objects::put_heading` meets its contract. Assumes nothing.
use Rattle.std.proofs.Common.{refl}
use Rattle.static_objects.proofs.StaticLaws.{heading-put}
use Rattle.static_objects.proofs.put_heading.Goals as goal

pub returns : goal.returns
returns c = rw (← c.group.ensures) (refl, heading-put _ _ _ _ _ _ _ _ c.put.ensures c.put-2.ensures)
