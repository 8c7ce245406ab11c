use Rattle.events.proofs.CarryLaws.{carry-nil}
use Rattle.std.proofs.lemmas.Bool.{not-true}
use mathlib.Core.Path.{◌≡◌, sym, ap, ◌∙◌}
use mathlib.Core.Bool.{false}
use Rattle.event_store.proofs.LentLaws.{lent-start, lent-rewritten, marks, skips, stops, lent-unasked}
use Rattle.events.specs.Placing.{place_event}
use native.Mathlib.Omega.{arith}
use Rattle.event_store.proofs.mark.Goals as goal
use Rattle.event_store.proofs.mark.Goals.{in-Pass, in-Carry}

pub returns-then-not-m-3 : goal.returns-then-not-m-3
returns-then-not-m-3 c =
    let m = c.args.m in
    let one : m.one ≡ false = search (not-true) in
    let two : m.two ≡ false = search (not-true) in
    let three : m.three ≡ false = search (not-true) in
    lent-unasked m one two three _ _ _

pub loop-i-init : goal.loop-i-init
loop-i-init c = lent-start _ _ _ c.told-held

pub returns-in-Stop : goal.returns-in-Stop
returns-in-Stop c =
    let least = c.filled-i-end.ensures in
    stops _ _ _ _ (omega (arith, least)) c.loop-i-test.true _ _ _ c.loop-i.invariant c.args.status least
    (sym (c.place_event.ensures ∙ ap (place_event _ _) c.event_of.ensures) ∙ c.in-Stop.is)

pub loop-i-preserved : goal.loop-i-preserved
loop-i-preserved c =
    let next = c.match-place_event in
    let told = sym (c.place_event.ensures ∙ ap (place_event _ _) c.event_of.ensures) in
    elim next.branch [
      | in-Pass w ↦
          rw (w.held-is, w.space-is)
          (skips _ _ _ _ (omega (arith, c.filled-i-end.ensures)) c.loop-i-test.true _ _ _ c.loop-i.invariant (told ∙ w.in-Pass.is))
      | in-Carry w ↦
          rw (w.held-is, w.space-is)
          (marks _ _ _ _ (omega (arith, c.filled-i-end.ensures)) c.loop-i-test.true _ _ _ c.loop-i.invariant _ (told ∙ w.in-Carry.is))
    ]

pub returns : goal.returns
returns c = lent-rewritten _ _ _ _ _ _ c.args.status c.filled-i-end.ensures c.loop-i-test.false (carry-nil _ _) c.loop-i.invariant
