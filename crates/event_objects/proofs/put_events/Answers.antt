use Rattle.event_objects.proofs.KindLaws.{run_of}
use Rattle.event_store.proofs.LentLaws.{status_of}
use Rattle.event_store.proofs.EventLaws.{slots_length}
use Rattle.event_store.specs.EventWords.{buffer_in}
use Rattle.events.specs.Placing.{kind_number, last_number}
use Rattle.events.proofs.EventKindLaws.{last-is}
use Rattle.event_objects.proofs.LoopLaws.{held_of, begun, written, loaded, skipped}
use Rattle.event_objects.proofs.EventLaws.{heading-length}
use Rattle.event_objects.specs.Events.{event_heading}
use Rattle.objects.proofs.WriterLaws.{writing-passed, same-fits, same-put, own-fits, own_put}
use Rattle.std.proofs.Common.{◌≡◌, arith, refl, sym, ap, ◌∙◌, ◌+◌}
use borrow.Author.Tests.{eqb-true, eqb-false}
use Rattle.event_objects.proofs.put_events.Goals as goal
use Rattle.event_objects.proofs.put_events.Goals.{then-carried_at+then-eq, then-carried_at+else-eq, else-carried_at}

pub loop-i-init : goal.loop-i-init
loop-i-init c =
    let ws = c.args.held.now in
    let e = held_of ws c.args.status _ c.filled-n.ensures in
    begun _ _ (buffer_in ws (status_of c.filled-n.result)) c.filled-n.result (slots_length ws) (omega (arith, c.filled-n.ensures)) (rw e c.requires)

pub put_event-to-requires : goal.put_event-to-requires
put_event-to-requires c =
    let at = c.loop-i in
    let next = loaded c.args.held.now c.filled-n.result at.i (omega (arith, c.filled-n.ensures)) c.loop-i-test.true _ c.load.ensures _ c.carried_at.ensures c.if-carried_at.true in
    let same = eqb-true _ _ (sym (last-is at.last c.kind-k.result) ∙ sym c.eq.ensures ∙ c.if-eq.true) in
    same-fits event_heading 5 heading-length at.invariant _ _ next _ (ap kind_number c.kind-k.ensures) _ refl same

pub put_heading-after-requires : goal.put_heading-after-requires
put_heading-after-requires c =
    let at = c.loop-i in
    let next = loaded c.args.held.now c.filled-n.result at.i (omega (arith, c.filled-n.ensures)) c.loop-i-test.true _ c.load.ensures _ c.carried_at.ensures c.if-carried_at.true in
    let other : kind_number c.kind-k.result ≡ last_number at.last → ⊥ = eqb-false _ _ (sym (last-is at.last c.kind-k.result) ∙ sym c.eq.ensures ∙ c.if-eq.false) in
    omega (arith, own-fits event_heading 5 heading-length at.invariant _ _ next _ (ap kind_number c.kind-k.ensures) _ refl other)

pub put_event-to-requires-else-eq : goal.put_event-to-requires-else-eq
put_event-to-requires-else-eq c =
    let at = c.loop-i in
    let next = loaded c.args.held.now c.filled-n.result at.i (omega (arith, c.filled-n.ensures)) c.loop-i-test.true _ c.load.ensures _ c.carried_at.ensures c.if-carried_at.true in
    let other : kind_number c.kind-k.result ≡ last_number at.last → ⊥ = eqb-false _ _ (sym (last-is at.last c.kind-k.result) ∙ sym c.eq.ensures ∙ c.if-eq.false) in
    omega (arith, own-fits event_heading 5 heading-length at.invariant _ _ next _ (ap kind_number c.kind-k.ensures) _ refl other, c.put_heading-after.ensures.0, c.put_heading-after.auto.out)

pub loop-i-preserved : goal.loop-i-preserved
loop-i-preserved c =
    let at = c.loop-i in
    let held = c.args.held.now in
    let n = c.filled-n.result in
    let below = c.loop-i-test.true in
    elim c.if-carried_at.branch [
      | then-carried_at+then-eq w ↦
          let next = loaded held n at.i (omega (arith, c.filled-n.ensures)) below _ w.load.ensures _ c.carried_at.ensures w.if-carried_at.true in
          let same = eqb-true _ _ (sym (last-is at.last w.kind-k.result) ∙ sym w.eq.ensures ∙ w.if-eq.true) in
          rw (w.out-is, w.to-is, w.last-is)
          (same-put event_heading 5 heading-length at.invariant _ _ next _ (ap kind_number w.kind-k.ensures) _ refl same _ _ w.put_event-to.ensures.0 w.put_event-to.ensures.1)
      | then-carried_at+else-eq w ↦
          let next = loaded held n at.i (omega (arith, c.filled-n.ensures)) below _ w.load.ensures _ c.carried_at.ensures w.if-carried_at.true in
          let other = eqb-false _ _ (sym (last-is at.last w.kind-k.result) ∙ sym w.eq.ensures ∙ w.if-eq.false) in
          let many = w.run_length-m.ensures.0 ∙ run_of held w.kind-k.result n (at.i + 1) in
          rw (w.out-is, w.to-is, w.last-is)
          (own_put event_heading 5 heading-length at.invariant _ _ next _ (ap kind_number w.kind-k.ensures) _ refl other _ _ _ _ _ many
          w.put_heading-after.ensures.0 w.put_heading-after.ensures.1 w.put_event-to-else-eq.ensures.0 w.put_event-to-else-eq.ensures.1)
      | else-carried_at w ↦
          rw (w.out-is, w.to-is, w.last-is)
          (writing-passed event_heading 5 heading-length at.invariant _ (skipped held n at.i (omega (arith, c.filled-n.ensures)) below _ c.carried_at.ensures w.if-carried_at.false))
    ]

pub returns : goal.returns
returns c =
    let ws = c.args.held.now in
    let f = c.filled-n in
    let e = held_of ws c.args.status _ f.ensures in
    rw e at (written _ _ (buffer_in ws (status_of f.result)) _ (slots_length ws) (omega (arith, f.ensures)) _ _ _ _ c.loop-i.invariant c.loop-i-test.false)
