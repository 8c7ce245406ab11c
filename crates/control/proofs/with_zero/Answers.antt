use mathlib.Core.Path.{◌≡◌, refl, ap, ap₂, ◌∙◌}
use mathlib.Core.List.{List, ◌++◌}
use native.Mathlib.Omega.{arith}
use borrow.Author.Rules.{rules}
use lib.ListN.{length, get_or, take, drop, length-set}
use Rattle.control.specs.Objects.{no_object, list_of}
use Rattle.control.specs.declared.ControlObject.{ControlObject}
use Rattle.control.specs.Status.{chosen}
use Rattle.laws.proofs.Loops.{length-mapped}
use Rattle.laws.proofs.Filling.{stored, finished, clamped}
use Rattle.control.proofs.ObjectLaws.{holding}
use Rattle.control.proofs.StatusLaws.{chosen-yes, chosen-no, chosen-end}
use Rattle.control.proofs.with_zero.Goals as goal
use Rattle.control.proofs.with_zero.Goals.{then-ss-i-eq0, else-ss-i-eq0}

pub loop-i-init : goal.loop-i-init
loop-i-init c = (refl, search (length-mapped, rules), omega arith, omega arith)

pub bounds-cs-i : goal.bounds-cs-i
bounds-cs-i c = search (length-mapped, rules)

pub loop-i-preserved : goal.loop-i-preserved
loop-i-preserved c =
    let n = c.min-n.result in
    let few = c.min-n.ensures in
    let a = c.args in
    let h : length a.cs.items ≡ 8 = search (length-mapped, rules) in
    let k : length a.ss ≡ 8 = search rules in
    elim c.if-ss-i-eq0.branch [
      | then-ss-i-eq0 w ↦
          rw (w.next-is, w.j-is) (
            stored c.loop-i.next.items c.loop-i.j (get_or a.cs.items c.loop-i.i no_object) _ _ (omega arith)
                (chosen-yes a.cs.items a.ss n c.loop-i.i (omega arith) (omega arith) (omega arith) w.if-ss-i-eq0.true)
                ∙ c.loop-i.invariant.0,
            simp length-set (omega arith),
            omega arith,
            omega arith,
          )
      | else-ss-i-eq0 w ↦
          rw (w.next-is, w.j-is) (
            ap (λ (x : List ControlObject). take c.loop-i.j c.loop-i.next.items ++ x)
                (chosen-no a.cs.items a.ss n c.loop-i.i (omega arith) (omega arith) (omega arith) w.if-ss-i-eq0.false)
                ∙ c.loop-i.invariant.0,
            c.loop-i.invariant.1,
            omega arith,
            omega arith,
          )
    ]

pub returns : goal.returns
unfolding list_of
returns c =
    let n = c.min-n.result in
    let few = c.min-n.ensures in
    let a = c.args in
    let h : length a.cs.items ≡ 8 = search (length-mapped, rules) in
    let k : length a.ss ≡ 8 = search rules in
    holding _ _ c.loop-i.invariant.1 (omega arith)
    (finished (take c.loop-i.j c.loop-i.next.items) _ _
    (chosen-end a.cs.items (drop c.loop-i.i (take n a.ss)) n c.loop-i.i (omega arith) (omega arith))
    c.loop-i.invariant.0
    ∙ ap₂ chosen (clamped a.cs.items 8 a.cs.count n h few) (clamped a.ss 8 a.cs.count n k few))
