-- `fragments::accept_confirm` meets its contract. Assumes nothing.
use Rattle.std.proofs.Common.{◌∙◌}
use Rattle.fragments.proofs.AnswerLaws.{bit-holds}
use Rattle.fragments.proofs.PartLaws.{confirmed-in}
use Rattle.fragments.proofs.accept_confirm.Goals as goal

pub returns : goal.returns
returns c =
    let a = c.args in
    confirmed-in a.h a.held.now c.release-t.new.held a.time a.a.showed_overflow a.a.dropped_since _ c.release-t.result _ c.none.result c.buffer_status.ensures
    c.release-t.ensures (bit-holds _ _ c.from.ensures ∙ c.still_dropped-overflow.ensures) c.none.ensures
