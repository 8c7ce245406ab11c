use mathlib.Core.Path.{◌≡◌, refl, sym, ap, ◌∙◌}
use mathlib.Core.Bool.{Bool}
use mathlib.Core.List.{List, [], ◌∷◌}
use Prim.Native.Nat.{ℕ, ◌+◌}
use native.Mathlib.Omega.{arith}
use borrow.Author.Rules.{rules}
use lib.ListN.{length, get_or, take, drop, length-set}
use Rattle.control.specs.Objects.{no_object, earlier_of, list_of}
use Rattle.control.specs.Status.{outputs_of, status_of, statuses}
use Rattle.laws.proofs.Loops.{length-mapped}
use Rattle.laws.proofs.Filling.{stored, finished, part_none, clamped}
use Rattle.control.proofs.StatusLaws.{statuses-step, statuses-nil, earlier-start}
use Rattle.control.proofs.statuses.Goals as goal

pub loop-i-init : goal.loop-i-init
loop-i-init c =
    let a = c.args in
    (ap (λ (e : List ℕ). statuses (outputs_of a.counts a.ws.now) e (take c.min-n.result a.cs.items)) (earlier-start a.cs.items), refl, omega arith)

pub bounds-cs-i : goal.bounds-cs-i
bounds-cs-i c = search (length-mapped, rules)

pub loop-i-preserved : goal.loop-i-preserved
loop-i-preserved c =
    let n = c.min-n.result in
    let few = c.min-n.ensures in
    let a = c.args in
    let h : length a.cs.items ≡ 8 = search (length-mapped, rules) in
    let v = c.status.ensures ∙ ap (λ (t : Bool). status_of (outputs_of a.counts a.ws.now) t (get_or a.cs.items c.loop-i.i no_object)) c.seen.ensures in (
      stored c.loop-i.ss c.loop-i.i c.status.result _ _ (omega arith)
          (statuses-step (outputs_of a.counts a.ws.now) a.cs.items n c.loop-i.i (omega arith) (omega arith)
          ∙ ap (λ (x : ℕ). x ∷ statuses (outputs_of a.counts a.ws.now) (earlier_of a.cs.items (c.loop-i.i + 1)) (drop (c.loop-i.i + 1) (take n a.cs.items))) (sym v))
          ∙ c.loop-i.invariant.0,
      simp length-set (omega arith),
      omega arith,
    )

pub returns : goal.returns
unfolding list_of
returns c =
    let n = c.min-n.result in
    let few = c.min-n.ensures in
    let a = c.args in
    let h : length a.cs.items ≡ 8 = search (length-mapped, rules) in
    let e : n ≡ c.loop-i.i = omega arith in (
      sym (clamped c.loop-i.ss 8 a.cs.count n c.loop-i.invariant.1 few)
          ∙ ap (λ (k : ℕ). take k c.loop-i.ss) e
          ∙ finished (take c.loop-i.i c.loop-i.ss) _ _
          (ap (statuses (outputs_of a.counts a.ws.now) (earlier_of a.cs.items c.loop-i.i)) (part_none a.cs.items n c.loop-i.i (omega arith) (omega arith))
          ∙ statuses-nil (outputs_of a.counts a.ws.now) (earlier_of a.cs.items c.loop-i.i))
          c.loop-i.invariant.0
          ∙ ap (statuses (outputs_of a.counts a.ws.now) []) (clamped a.cs.items 8 a.cs.count n h few),
      c.loop-i.invariant.1,
    )
