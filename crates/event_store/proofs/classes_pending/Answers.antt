use lib.ListN.{length}
use mathlib.Core.Path.{refl, sym, ◌∙◌}
use Rattle.event_store.proofs.LentLaws.{lent-some, notes, notes-none, noted-early}
use Rattle.event_store.proofs.EventLaws.{slots_length}
use Rattle.event_store.specs.EventWords.{slots_in}
use Rattle.events.proofs.SeenLaws.{noting-start, noted}
use Rattle.events.specs.BufferView.{is_pending}
use native.Mathlib.Omega.{arith}
use Prim.Native.Nat.{◌≤◌}
use Rattle.event_store.proofs.classes_pending.Goals as goal
use Rattle.event_store.proofs.classes_pending.Goals.{in-Some+else-one, in_default}

pub loop-i-init : goal.loop-i-init
loop-i-init c =
    let fits : c.filled-i-end.result ≤ length (slots_in c.args.held.now) = omega (arith, slots_length c.args.held.now, c.filled-i-end.ensures) in
    (noting-start _ _ _ fits, noting-start _ _ _ fits, noting-start _ _ _ fits)

pub returns-then-three : goal.returns-then-three
returns-then-three c =
    let at = c.loop-i in
    let a = c.args in
    let below = c.loop-i-test.true in
    let left = sym c.in-Some.is ∙ c.waiting_class.ensures in
    let one = notes _ _ _ _ _ below at.invariant.0 _ _ left refl in
    let two = notes _ _ _ _ _ below at.invariant.1 _ _ left refl in
    let three = notes _ _ _ _ _ below at.invariant.2 _ _ left refl in
    λ k.
    record {
      one = lent-some (is_pending 1) a.held.now a.status _ _ c.filled-i-end.ensures (noted-early _ _ _ _ _ one c.if-one.true) k;
      two = lent-some (is_pending 2) a.held.now a.status _ _ c.filled-i-end.ensures (noted-early _ _ _ _ _ two c.if-two.true) k;
      three = lent-some (is_pending 3) a.held.now a.status _ _ c.filled-i-end.ensures (noted-early _ _ _ _ _ three c.if-three.true) k;
    }

pub loop-i-preserved : goal.loop-i-preserved
loop-i-preserved c =
    let at = c.loop-i in
    let below = c.loop-i-test.true in
    elim c.match-waiting_class.branch [
      | in-Some+else-one w ↦
          let left = sym w.in-Some.is ∙ c.waiting_class.ensures in
          rw (w.one-is, w.two-is, w.three-is) (
            notes _ _ _ _ _ below at.invariant.0 _ _ left refl,
            notes _ _ _ _ _ below at.invariant.1 _ _ left refl,
            notes _ _ _ _ _ below at.invariant.2 _ _ left refl,
          )
      | in_default w ↦
          let none = sym w.in_default.is ∙ c.waiting_class.ensures in
          rw (w.one-is, w.two-is, w.three-is)
          (notes-none _ _ _ _ _ below at.invariant.0 none, notes-none _ _ _ _ _ below at.invariant.1 none, notes-none _ _ _ _ _ below at.invariant.2 none)
    ]

pub returns-after-loop-i : goal.returns-after-loop-i
returns-after-loop-i c =
    let a = c.args in
    let least = c.filled-i-end.ensures in
    let at = c.loop-i.invariant in
    let over = c.loop-i-test.false in
    λ k.
    record {
      one = lent-some (is_pending 1) a.held.now a.status _ _ least (noted _ _ _ _ _ at.0 over) k;
      two = lent-some (is_pending 2) a.held.now a.status _ _ least (noted _ _ _ _ _ at.1 over) k;
      three = lent-some (is_pending 3) a.held.now a.status _ _ least (noted _ _ _ _ _ at.2 over) k;
    }
