-- `outstation::take_reading` meets its contract. Assumes nothing.
use Rattle.outstation.proofs.HeadLaws.{put-together}
use Rattle.outstation.proofs.take_reading.Goals as goal

pub returns : goal.returns
returns c = rw c.put_together.ensures.refusal (put-together c.args.h _ _ _ c.args.r _ c.apply_reading-t.result _ _ c.installed_of-n.ensures c.changes_of.ensures c.apply_reading-t.ensures c.put_together.ensures.head)
