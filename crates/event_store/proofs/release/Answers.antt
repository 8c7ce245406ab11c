use mathlib.Core.Bool.{not}
use mathlib.Core.Path.{sym, ap, ◌∙◌}
use native.Mathlib.Omega.{arith}
use Rattle.event_store.proofs.LentLaws.{lent-start, lent-shortened, moves, goes}
use Rattle.events.specs.BufferView.{not_carried}
use Rattle.laws.proofs.Loops.{filter-nil}
use Rattle.event_store.proofs.release.Goals as goal
use Rattle.event_store.proofs.release.Goals.{then-not-is_carried, else-not-is_carried}

pub loop-i-init : goal.loop-i-init
loop-i-init c = lent-start _ _ _ c.told-held

pub loop-i-preserved : goal.loop-i-preserved
loop-i-preserved c =
    let next = c.if-not-is_carried in
    let waits = sym (ap not c.is_carried.ensures) in
    elim next.branch [
      | then-not-is_carried w ↦
          rw (w.held-is, w.j-is) (moves _ _ _ _ (omega (arith, c.filled-i-end.ensures)) c.loop-i-test.true _ c.loop-i.invariant (waits ∙ ap not w.if-not-is_carried.true))
      | else-not-is_carried w ↦
          rw (w.held-is, w.j-is) (goes _ _ _ _ (omega (arith, c.filled-i-end.ensures)) c.loop-i-test.true _ c.loop-i.invariant (waits ∙ ap not w.if-not-is_carried.false))
    ]

pub returns : goal.returns
returns c =
    let least = c.filled-i-end.ensures in
    let s = c.loop-i.invariant in (
      lent-shortened _ _ _ _ _ _ c.args.status least _ c.loop-i-test.false (filter-nil not_carried) s,
      omega (arith, least, s.going.read, s.going.written),
    )
