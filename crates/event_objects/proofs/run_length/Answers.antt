use Rattle.event_objects.proofs.KindLaws.{kinds-long, kind_at, count-end, count-pass, count_same, count-other}
use Rattle.events.proofs.EventKindLaws.{same-kind}
use Rattle.std.proofs.Common.{arith, sym, ◌∙◌}
use borrow.Author.Tests.{not-true, not-false}
use Rattle.event_objects.proofs.run_length.Goals as goal
use Rattle.event_objects.proofs.run_length.Goals.{in-Some+else-ne, in_default}

pub loop-i-init : goal.loop-i-init
loop-i-init c = (omega arith, omega arith, omega arith)

pub overflow_add-m : goal.overflow_add-m
overflow_add-m c = omega (arith, c.loop-i.invariant.2, c.requires)

pub returns-then-ne : goal.returns-then-ne
returns-then-ne c =
    let at = c.loop-i in
    let q = kind_at c.args.held.now at.i _ _ c.carried_kind.ensures c.load.ensures in
    let other = sym (same-kind c.in-Some.k c.args.kind) ∙ not-true _ (sym c.ne.ensures ∙ c.if-ne.true) in (
      count-other _ _ _ _ _ _ at.invariant.0 c.loop-i-test.true (kinds-long _ _ c.requires) _ (q ∙ c.in-Some.is) other,
      omega (arith, at.invariant.2, c.requires),
    )

pub loop-i-preserved : goal.loop-i-preserved
loop-i-preserved c =
    let at = c.loop-i in
    let below = c.loop-i-test.true in
    let q = kind_at c.args.held.now at.i _ _ c.carried_kind.ensures c.load.ensures in
    elim c.match-carried_kind.branch [
      | in-Some+else-ne w ↦
          let same = sym (same-kind w.in-Some.k c.args.kind) ∙ not-false _ (sym w.ne.ensures ∙ w.if-ne.false) in
          rw w.m-is (
            count_same _ _ _ _ _ _ at.invariant.0 below (kinds-long _ _ c.requires) _ (q ∙ w.in-Some.is) same,
            omega (arith, at.invariant.1),
            omega (arith, at.invariant.1),
          )
      | in_default w ↦
          rw w.m-is (
            count-pass _ _ _ _ _ _ at.invariant.0 below (kinds-long _ _ c.requires) (q ∙ w.in_default.is),
            omega (arith, at.invariant.1),
            at.invariant.2,
          )
    ]

pub returns : goal.returns
returns c = (count-end _ _ _ _ _ _ c.loop-i.invariant.0 c.loop-i-test.false, omega (arith, c.loop-i.invariant.2, c.requires))
