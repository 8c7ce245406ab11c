use mathlib.Core.Path.{sym, ◌∙◌}
use Rattle.event_store.proofs.LentLaws.{lent-some}
use Rattle.event_store.proofs.EventLaws.{slots_length}
use Rattle.events.specs.BufferView.{is_carried, no_held}
use Rattle.laws.proofs.Search.{searching-start, searching-more, searching-found, searching-end}
use native.Mathlib.Omega.{arith}
use Rattle.event_store.proofs.any_carried.Goals as goal

pub loop-i-init : goal.loop-i-init
loop-i-init c = searching-start _ _ _ (omega (arith, slots_length c.args.held.now, c.filled-i-end.ensures))

pub returns-then-carried_at : goal.returns-then-carried_at
returns-then-carried_at c =
    lent-some is_carried c.args.held.now c.args.status _ _ c.filled-i-end.ensures
    (searching-found _ _ _ _ c.loop-i.invariant no_held c.loop-i-test.true (sym c.carried_at.ensures ∙ c.if-carried_at.true))

pub loop-i-preserved : goal.loop-i-preserved
loop-i-preserved c = searching-more _ _ _ _ c.loop-i.invariant no_held c.loop-i-test.true (sym c.carried_at.ensures ∙ c.if-carried_at.false)

pub returns : goal.returns
returns c =
    lent-some is_carried c.args.held.now c.args.status _ _ c.filled-i-end.ensures (searching-end _ _ _ _ c.loop-i.invariant c.loop-i-test.false)
