-- `fragments::repeat_request` meets its contract.
-- Assumes nothing.
use Rattle.fragments.proofs.PartLaws.{repeated-in}
use Rattle.fragments.proofs.repeat_request.Goals as goal

pub returns : goal.returns
returns c =
    let a = c.args in
    let pa = c.put_again-n in
    repeated-in a.h a.request.now a.answer.now a.r.function a.r.time c.none.result a.out.now _ pa.result _ c.none.ensures pa.ensures c.requires
    c.answer_as.ensures
