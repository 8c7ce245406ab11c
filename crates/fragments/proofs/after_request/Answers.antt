-- `fragments::after_request` meets its contract. Assumes nothing.
use Rattle.fragments.proofs.AnswerLaws.{bit-holds}
use Rattle.fragments.proofs.PartLaws.{after-empty, after-armed}
use Rattle.fragments.proofs.after_request.Goals as goal

pub returns-in-None : goal.returns-in-None
returns-in-None c =
    let a = c.args in
    rw c.in-None.is (after-empty a.h a.time a.k a.restarted _ _ (bit-holds _ _ c.from.ensures))

pub returns-in-Some : goal.returns-in-Some
returns-in-Some c =
    let a = c.args in
    rw c.in-Some.is (after-armed a.h a.time a.k a.restarted c.in-Some.selection _ _ (bit-holds _ _ c.from.ensures) c.latch_byte.ensures)
