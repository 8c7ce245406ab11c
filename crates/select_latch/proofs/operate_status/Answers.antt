-- `select_latch::operate_status` meets its contract: by the tests, in their order.
-- Assumes nothing.
use mathlib.Core.Path.{◌≡◌, sym, ap, ◌∙◌}
use mathlib.Core.Bool.{Bool, true, false}
use mathlib.Core.List.{List}
use Prim.Native.Nat.{ℕ, ◌-◌, min}
use native.Mathlib.Omega.{arith}
use borrow.Author.Rules.{rules}
use borrow.Author.Tests.{lt-leb, le-leb}
use lib.Dec.{eqb}
use lib.ListN.{length, take}
use Rattle.laws.specs.Lists.{same}
use Rattle.laws.proofs.Loops.{length-mapped}
use Rattle.laws.proofs.Filling.{clamped}
use Rattle.application.specs.Fragment.{next_of}
use Rattle.control.specs.Objects.{echo_max}
use Rattle.select_latch.proofs.Laws.{status-tested, status-empty, alike, apart, is_so, not_so}
use Rattle.select_latch.proofs.operate_status.Goals as goal

compared : (o objects : List ℕ) (len n : ℕ) → length objects ≡ 109 → n ≡ min len echo_max → (t : Bool) → same o (take n objects) ≡ t
    → same o (take len objects) ≡ t
compared o objects len n h e t p = ap (same o) (sym (clamped objects echo_max len n h e)) ∙ p

sequence : (x y n : ℕ) (t : Bool) → n ≡ next_of y → eqb x n ≡ t → eqb x (next_of y) ≡ t
sequence x y n t e p = ap (eqb x) (sym e) ∙ p

pub returns-in_default : goal.returns-in_default
returns-in_default c =
    let a = c.args in
    rw (status-empty a.arm_time a.latch c.in_default.is a.group a.sequence.0 a.time a.o.now)

pub returns-then-ne : goal.returns-then-ne
returns-then-ne c =
    let a = c.args in
    rw (status-tested a.arm_time a.latch c.in-Some.selection c.in-Some.is a.group a.sequence.0 a.time a.o.now, apart c.in-Some.selection.group a.group c.if-ne.ensures)

pub returns-then-not-equal : goal.returns-then-not-equal
returns-then-not-equal c =
    let a = c.args in
    rw (status-tested a.arm_time a.latch c.in-Some.selection c.in-Some.is a.group a.sequence.0 a.time a.o.now, alike c.in-Some.selection.group a.group c.if-ne.ensures, compared a.o.now c.in-Some.selection.objects c.in-Some.selection.len _ (search (length-mapped, rules)) c.min-len.ensures false (sym c.equal.ensures ∙ c.if-not-equal.true))

pub returns-then-ne-2 : goal.returns-then-ne-2
returns-then-ne-2 c =
    let a = c.args in
    rw (status-tested a.arm_time a.latch c.in-Some.selection c.in-Some.is a.group a.sequence.0 a.time a.o.now, alike c.in-Some.selection.group a.group c.if-ne.ensures, compared a.o.now c.in-Some.selection.objects c.in-Some.selection.len _ (search (length-mapped, rules)) c.min-len.ensures true (sym c.equal.ensures ∙ c.if-not-equal.false), sequence _ _ _ false c.next.ensures (not_so _ c.if-ne-2.ensures))

pub returns-then-arm_time-elapsed : goal.returns-then-arm_time-elapsed
returns-then-arm_time-elapsed c =
    let a = c.args in
    rw (status-tested a.arm_time a.latch c.in-Some.selection c.in-Some.is a.group a.sequence.0 a.time a.o.now, alike c.in-Some.selection.group a.group c.if-ne.ensures, compared a.o.now c.in-Some.selection.objects c.in-Some.selection.len _ (search (length-mapped, rules)) c.min-len.ensures true (sym c.equal.ensures ∙ c.if-not-equal.false), sequence _ _ _ true c.next.ensures (is_so _ c.if-ne-2.ensures), lt-leb (a.time - c.in-Some.selection.time) a.arm_time (omega arith))

pub returns-else-arm_time-elapsed : goal.returns-else-arm_time-elapsed
returns-else-arm_time-elapsed c =
    let a = c.args in
    rw (status-tested a.arm_time a.latch c.in-Some.selection c.in-Some.is a.group a.sequence.0 a.time a.o.now, alike c.in-Some.selection.group a.group c.if-ne.ensures, compared a.o.now c.in-Some.selection.objects c.in-Some.selection.len _ (search (length-mapped, rules)) c.min-len.ensures true (sym c.equal.ensures ∙ c.if-not-equal.false), sequence _ _ _ true c.next.ensures (is_so _ c.if-ne-2.ensures), le-leb (a.time - c.in-Some.selection.time) a.arm_time (omega arith))
