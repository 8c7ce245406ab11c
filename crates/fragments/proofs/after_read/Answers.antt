-- `fragments::after_read` meets its contract. Assumes nothing.
use Rattle.fragments.proofs.AnswerLaws.{bit-holds}
use Rattle.fragments.proofs.PartLaws.{after_read}
use Rattle.fragments.proofs.after_read.Goals as goal

pub returns : goal.returns
returns c =
    let a = c.args in
    after_read a.h a.time a.k a.q a.con _ (bit-holds _ _ c.from.ensures)
