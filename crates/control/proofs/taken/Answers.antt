use mathlib.Core.Path.{◌≡◌, sym, ap, ◌∙◌}
use mathlib.Core.List.{◌∷◌}
use Prim.Native.Nat.{ℕ, ◌+◌, ◌-◌}
use native.Mathlib.Omega.{arith}
use borrow.Author.Rules.{rules}
use lib.ListN.{take, drop, length-set, length-take, length-drop}
use Rattle.control.specs.Objects.{value_size, span, object_at, objects, list_of}
use Rattle.control.specs.declared.ControlObject.{ControlObject}
use Rattle.laws.proofs.Loops.{length-mapped}
use Rattle.laws.proofs.Filling.{stored, finished, to_end}
use Rattle.control.proofs.ObjectLaws.{span-step, objects-step, objects-none, holding}
use Rattle.control.proofs.taken.Goals as goal

pub loop-i-init : goal.loop-i-init
loop-i-init c =
    let a = c.args in
    let e : a.x.count - 0 ≡ a.x.count = omega arith in
    let f = ap (λ (k : ℕ). span a.x.width (value_size a.x.kind) k) e in
    (ap (λ (k : ℕ). objects a.x.kind a.x.width k a.b.now) e, search (length-mapped, rules), omega arith, omega (arith, f))

pub take_object-requires : goal.take_object-requires
take_object-requires c =
    let a = c.args in
    let st = span-step a.x.width (value_size a.x.kind) a.x.count c.loop-i.i (omega arith) in
    (simp (length-take, length-drop) (omega (arith, st)), omega arith)

pub loop-i-preserved : goal.loop-i-preserved
loop-i-preserved c =
    let a = c.args in
    let v = c.take_object.ensures ∙ ap (object_at a.x.kind a.x.width) (to_end a.b.now c.loop-i.at) in (
      rw c.value_size.ensures.0
          (stored c.loop-i.next.items c.loop-i.i c.take_object.result _ _ (omega arith)
          (objects-step a.x.kind a.x.width a.x.count c.loop-i.i c.loop-i.at a.b.now (omega arith) ∙ ap (λ (x : ControlObject). x ∷ objects a.x.kind a.x.width (a.x.count - (c.loop-i.i + 1)) (drop (c.loop-i.at + (a.x.width + value_size a.x.kind + 1)) a.b.now)) (sym v))
          ∙ c.loop-i.invariant.0),
      simp length-set (omega arith),
      omega arith,
      omega (arith, span-step a.x.width (value_size a.x.kind) a.x.count c.loop-i.i (omega arith)),
    )

pub returns : goal.returns
unfolding list_of
returns c =
    let a = c.args in
    let e : c.loop-i.i ≡ a.x.count = omega arith in
    holding _ (objects a.x.kind a.x.width a.x.count a.b.now) c.loop-i.invariant.1 (omega arith)
    (ap (λ (k : ℕ). take k c.loop-i.next.items) (sym e)
    ∙ finished (take c.loop-i.i c.loop-i.next.items) (objects a.x.kind a.x.width (a.x.count - c.loop-i.i) (drop c.loop-i.at a.b.now)) _ (objects-none a.x.kind a.x.width _ _ (omega arith)) c.loop-i.invariant.0)
