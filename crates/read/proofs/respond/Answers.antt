-- `read::respond` meets its contract. By what the READ is.
-- Assumes nothing.
use mathlib.Core.Path.{sym, ap, ◌∙◌}
use native.Mathlib.Omega.{arith}
use Rattle.event_store.specs.EventWords.{buffer_view_in}
use Rattle.point_store.specs.PointWords.{points_view_in}
use Rattle.read_headers.specs.Parse.{fault_in}
use Rattle.static_objects.specs.Static.{asked_of}
use Rattle.read.proofs.AskLaws.{asked-for, asked-fits, asked-fault}
use Rattle.read.proofs.ResponseLaws.{beside, answered, refused, chosen}
use Rattle.read.proofs.respond.Goals as goal

pub overflow_sub-request : goal.overflow_sub-request
overflow_sub-request c =
    let a = c.args in
    omega (arith, asked-fits (points_view_in a.points.installed a.points.binaries.now a.points.analogs.now) a.s.now _ (sym c.in-Ok.is ∙ c.asked.ensures a.points.binaries.now))

pub put_objects-size-requires : goal.put_objects-size-requires
put_objects-size-requires c =
    let a = c.args in
    let i = points_view_in a.points.installed a.points.binaries.now a.points.analogs.now in
    let e = sym c.in-Ok.is ∙ c.asked.ensures a.points.binaries.now in
    let r = asked-for i _ (asked_of i a.s.now) e in (
      r.faultless,
      omega (arith, beside _ _ (buffer_view_in a.held.now a.status) _ (asked-fits i a.s.now _ e) c.mark_carried.ensures, r.size, c.requires),
    )

pub returns-in-Ok : goal.returns-in-Ok
returns-in-Ok c =
    let a = c.args in
    let i = points_view_in a.points.installed a.points.binaries.now a.points.analogs.now in
    let r = asked-for i _ (asked_of i a.s.now) (sym c.in-Ok.is ∙ c.asked.ensures a.points.binaries.now) in
    let k = c.mark_carried.ensures ∙ chosen (buffer_view_in a.held.now a.status) r.classes r.size in
    let w = answered _ _ _ _ _ _ _ _ r.read k c.put_objects-size.ensures.0 c.put_objects-size.ensures.1 in
    record { fault = sym r.faultless; events = w.0; size = w.1; bytes = w.2 }

pub returns-in-Err : goal.returns-in-Err
returns-in-Err c =
    let a = c.args in
    let i = points_view_in a.points.installed a.points.binaries.now a.points.analogs.now in
    let f = asked-fault i _ (asked_of i a.s.now) (sym c.in-Err.is ∙ c.asked.ensures a.points.binaries.now) in
    let w = refused _ _ _ _ a.out.now _ f c.clear.ensures in
    record { fault = ap fault_in f; events = w.0; size = w.1; bytes = w.2 }
