-- `select_latch::control_effect` meets its contract: by the form of the object bytes.
-- Assumes nothing.
use mathlib.Core.Path.{◌≡◌, refl, sym, ap, ap₂, ◌∙◌}
use mathlib.Core.List.{List}
use Prim.Native.Nat.{ℕ}
use native.Mathlib.Omega.{arith}
use lib.ListN.{length, take}
use Rattle.octets.specs.Bytes.{splice}
use Rattle.octets.proofs.Splice.{splice-nil}
use Rattle.control.specs.declared.Form.{Form}
use Rattle.control.specs.declared.ControlObjects.{ControlObjects}
use Rattle.control.specs.Objects.{value_size, Holding, objects}
use Rattle.control.specs.Status.{outputs_of, echo_of}
use Rattle.control.proofs.FormLaws.{formed-fits}
use Rattle.control.proofs.ObjectLaws.{objects-length}
use Rattle.select_latch.specs.declared.ControlGroup.{ControlGroup}
use Rattle.select_latch.specs.Select.{latch_of, operate_status, statuses_by, echo_by, carried_by, latch_by}
use Rattle.select_latch.proofs.Laws.{effect-wrong, effect-objects}
use Rattle.select_latch.proofs.control_effect.Goals as goal

-- as many objects as the header says
held-count : {c : ControlObjects} (x : Form) (b : List ℕ) → Holding c (objects x.kind x.width x.count b) → c.count ≡ x.count
held-count x b h = h.count ∙ objects-length x.kind x.width x.count b

pub statuses_by-ss-requires : goal.statuses_by-ss-requires
statuses_by-ss-requires c =
    let fit = formed-fits c.args.o.now c.in-Ok.x (sym c.header.ensures ∙ c.in-Ok.is) in
    omega (arith, held-count c.in-Ok.x _ c.objects-cs.ensures, fit.few)

pub latch_after-requires : goal.latch_after-requires
latch_after-requires c = (formed-fits c.args.o.now c.in-Ok.x (sym c.header.ensures ∙ c.in-Ok.is)).short

pub returns-in-Err : goal.returns-in-Err
returns-in-Err c =
    let a = c.args in
    rw
    (effect-wrong (outputs_of a.counts a.ws.now) a.arm_time (latch_of a.latch) a.f a.sequence.0 a.time a.o.now c.in-Err.fault
    (sym c.header.ensures ∙ c.in-Err.is))
    (record { fault = refl; len = refl; lent = sym (splice-nil a.out.now 4); carried = c.none.ensures; latch = c.empty.ensures.0; counted = c.empty.ensures.1 })

pub returns-in-Ok : goal.returns-in-Ok
returns-in-Ok c =
    let a = c.args in
    let x = c.in-Ok.x in
    let cs = c.objects-cs.ensures.objects in
    let s =
    c.operate_status-s.ensures
    ∙ ap (λ (g : ControlGroup). operate_status a.arm_time (latch_of a.latch) g a.sequence.0 a.time a.o.now) c.group_of-group.ensures in
    let by = c.statuses_by-ss.ensures.0 ∙ ap₂ (statuses_by a.f (outputs_of a.counts a.ws.now)) s cs in
    let ss = ap (λ (i : ℕ). take i c.statuses_by-ss.result) (sym (held-count x _ c.objects-cs.ensures)) ∙ by in
    rw (effect-objects (outputs_of a.counts a.ws.now) a.arm_time (latch_of a.latch) a.f a.sequence.0 a.time a.o.now x (sym c.header.ensures ∙ c.in-Ok.is))
    (record {
      fault = refl;
      len = c.answer-len.ensures.1 ∙ ap (λ (z : List ℕ). length (echo_by a.f (echo_of x.width (value_size x.kind) z a.o.now))) ss;
      lent = c.answer-len.ensures.0 ∙ ap (λ (z : List ℕ). splice a.out.now 4 (echo_by a.f (echo_of x.width (value_size x.kind) z a.o.now))) ss;
      carried = rw (← ap₂ (carried_by a.f) cs by) c.carry.ensures;
      latch =
          c.latch_after.ensures.0
          ∙ ap₂ (λ (g : ControlGroup) (z : List ℕ). latch_by a.f g z a.sequence.0 a.time a.o.now) c.group_of-group.ensures ss;
      counted = c.latch_after.ensures.1;
    })
