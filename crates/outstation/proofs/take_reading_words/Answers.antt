-- `outstation::take_reading_words` meets its contract. Assumes nothing.
use Rattle.outstation.proofs.HeadLaws.{put-together}
use Rattle.outstation.specs.CallContracts.{reading_of}
use Rattle.outstation.proofs.take_reading_words.Goals as goal

pub returns : goal.returns
returns c = rw c.put_together.ensures.refusal (put-together c.args.h _ _ _ (reading_of c.args.w) _ c.apply_words-t.result _ _ c.installed_of-n.ensures c.changes_of.ensures c.apply_words-t.ensures c.put_together.ensures.head)
