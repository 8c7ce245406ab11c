-- `fragments::answer_read` meets its contract.
-- Assumes nothing.
use mathlib.Core.List.{List}
use mathlib.Core.Path.{refl, subst, ◌∙◌}
use Prim.Native.Nat.{ℕ}
use Rattle.laws.proofs.Filling.{to_end}
use Rattle.point_store.specs.PointWords.{points_view_in}
use Rattle.event_store.specs.EventWords.{buffer_view_in}
use Rattle.read.specs.Response.{RepliedAs}
use Rattle.outstation.specs.Lent.{installed_of}
use Rattle.fragments.proofs.PartLaws.{read-in}
use Rattle.fragments.proofs.answer_read.Goals as goal

pub shape_of-out : goal.shape_of-out
shape_of-out c =
    c.put_response_header.auto.out ∙ c.respond-reply.auto.out

pub returns : goal.returns
returns c =
    let a = c.args in
    let re = c.respond-reply in
    let t = c.buffer_status-t in
    let rs = c.con_by-con in
    let g =
    subst (λ (x : List ℕ). RepliedAs (points_view_in (installed_of a.h) a.binaries.now a.analogs.now) x (buffer_view_in a.held.now t.result) a.out.now re.result (buffer_view_in re.new.held t.result) re.new.out)
    (to_end a.r.bytes.now 2) (rw c.installed_of.ensures at re.ensures) in
    read-in a.h a.binaries.now a.analogs.now a.held.now a.request.now a.answer.now a.r.sequence.0 a.r.time a.r.bytes.now _ _ _ re.result a.out.now _ _ _ _
    c.remember-kept.result c.after_read.result c.none.result c.none.ensures c.after_read.ensures c.remember-kept.ensures
    a.r.short c.requires t.result _ t.ensures refl g rs.ensures c.any_carried.ensures
    c.put_response_header.ensures
