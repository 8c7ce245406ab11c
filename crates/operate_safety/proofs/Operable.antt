-- Every object that a list of calls hands to the host is operable: direct operation chooses those with status 0, and a latch is armed
-- only with objects that all have it.
-- Assumes nothing.
use mathlib.Core.Path.{◌≡◌, refl, sym, subst}
use mathlib.Core.Bool.{false}
use mathlib.Core.List.{List, [], ◌∷◌, ◌++◌}
use Prim.Native.Nat.{ℕ, ◌+◌}
use borrow.Author.Tests.{eqb-true, eqb-false}
use lib.Dec.{eqb}
use lib.ListN.{length, drop, replicate}
use Rattle.laws.proofs.Choices.{by, split}
use Rattle.control.specs.declared.ControlObject.{ControlObject}
use Rattle.control.specs.declared.Form.{Form}
use Rattle.std.specs.Prelude.{Result, Ok, Err}
use Rattle.application.specs.declared.Fault.{Fault}
use Rattle.control.specs.Objects.{formed, objects, objects_by}
use Rattle.control.specs.Status.{Outputs, statuses, all_zero, chosen}
use Rattle.control.specs.Operable.{AllOperable}
use Rattle.control.proofs.OperableLaws.{zeros-operable, chosen-operable}
use Rattle.select_latch.specs.declared.ControlFunction.{ControlFunction}
use Rattle.select_latch.specs.declared.ControlFunction.TheVariants.{Select, Operate, DirectOperate, DirectOperateNoResponse}
use Rattle.select_latch.specs.Select.{group_of, LatchView, no_select, selected, operate_status, is_select, is_operate, by_form, control_effect}
use Rattle.last_request.specs.Requests.{Request, Acted, Remembered, sequence_in, function_in, objects_in, acted, remembered_after, repeated, outcome}
use Rattle.last_request.proofs.Controls.{chosen_none, chosen-all, operate-zero}
use Rattle.outstation.specs.Setup.{outputs_set_up}
use Rattle.operate_safety.specs.Operable.{HandedOperable}
use Rattle.operate_safety.proofs.Theorem.{operated-only-selected}

module _ (outputs : Outputs) (arm : ℕ) where
  append-operable : (a b : List ControlObject) → AllOperable outputs a → AllOperable outputs b → AllOperable outputs (a ++ b)
  append-operable [] b p q = q
  append-operable (c ∷ a) b p q = (p.0, append-operable a b p.1 q)

  -- objects that all have one status: none is chosen, or all
  chosen-alike : (cs : List ControlObject) (s : ℕ) → (s ≡ 0 → AllOperable outputs cs) → AllOperable outputs (chosen cs (replicate (length cs) s))
  chosen-alike cs s h =
      by (eqb s 0)
      (λ t. rw (eqb-true s 0 t, chosen-all cs) (h (eqb-true s 0 t)))
      (λ t. rw (chosen_none cs s (eqb-false s 0 t)) tt)

  -- the objects that an armed latch has
  abbrev LatchOperable : LatchView → Type 0
  LatchOperable no_select = Unit {0}
  LatchOperable (selected g q t o) = AllOperable outputs (objects_by (formed o) o)

  record ActsOperable (a : Acted) : Type 0 where
    carried : AllOperable outputs a.carried
    latch : LatchOperable a.latch

  -- ---- one request

  module _ (l : LatchView) (r : Request) (armed : LatchOperable l) where
    abbrev ByForm : ControlFunction → Result Form Fault → Type 0
    ByForm f x =
        ActsOperable
        (record {
          carried = (by_form x outputs arm l f (sequence_in r) r.time (objects_in r)).carried;
          latch = (by_form x outputs arm l f (sequence_in r) r.time (objects_in r)).latch;
        })

    select-ok : (x : Result Form Fault) → formed (objects_in r) ≡ x → ByForm Select x
    select-ok (Err y) e = record { carried = tt; latch = tt }
    select-ok (Ok x) e =
        by (all_zero (statuses outputs [] (objects x.kind x.width x.count (drop (3 + x.width) (objects_in r)))))
        (λ t. rw t (record { carried = tt; latch = rw e (zeros-operable outputs [] (objects x.kind x.width x.count (drop (3 + x.width) (objects_in r))) t) }))
        (λ t. rw t (record { carried = tt; latch = tt }))

    operate-ok : (x : Result Form Fault) → formed (objects_in r) ≡ x → ByForm Operate x
    operate-ok (Err y) e = record { carried = tt; latch = tt }
    operate-ok (Ok x) e =
        let status = operate_status arm l (group_of x.kind) (sequence_in r) r.time (objects_in r) in
        let all : status ≡ 0 → AllOperable outputs (objects x.kind x.width x.count (drop (3 + x.width) (objects_in r))) =
        λ z. rw e at (subst LatchOperable (operate-zero arm l (group_of x.kind) (sequence_in r) r.time (objects_in r) z).latched armed) in
        record { carried = chosen-alike (objects x.kind x.width x.count (drop (3 + x.width) (objects_in r))) status all; latch = tt }

    -- with a response or without
    direct-ok : (f : ControlFunction) → is_select f ≡ false → is_operate f ≡ false → (x : Result Form Fault) → ByForm f x
    direct-ok f s d (Err y) = record { carried = tt; latch = tt }
    direct-ok f s d (Ok x) = rw (s, d) (record { carried = chosen-operable outputs [] (objects x.kind x.width x.count (drop (3 + x.width) (objects_in r))); latch = tt })

    acts-operable : ActsOperable (acted outputs arm l r)
    unfolding acted control_effect
    acts-operable =
        split ActsOperable (eqb (function_in r) 3) (λ _. select-ok (formed (objects_in r)) refl)
        (λ _. split ActsOperable (eqb (function_in r) 4) (λ _. operate-ok (formed (objects_in r)) refl)
        (λ _. split ActsOperable (eqb (function_in r) 5) (λ _. direct-ok DirectOperate refl refl (formed (objects_in r)))
        (λ _. split ActsOperable (eqb (function_in r) 6) (λ _. direct-ok DirectOperateNoResponse refl refl (formed (objects_in r)))
        (λ _. record { carried = tt; latch = tt }))))

  -- ---- every list of requests

  latch-operable : (h : List Request) → LatchOperable (remembered_after outputs arm h).latch
  unfolding remembered_after
  latch-operable [] = tt
  latch-operable (r ∷ h) =
      split (λ (m : Remembered). LatchOperable m.latch) (repeated outputs arm h r) (λ _. latch-operable h)
      (λ _. (acts-operable (remembered_after outputs arm h).latch r (latch-operable h)).latch)

  outcome-operable : (h : List Request) → AllOperable outputs (outcome outputs arm h)
  unfolding outcome
  outcome-operable [] = tt
  outcome-operable (r ∷ h) =
      append-operable (outcome outputs arm h) _ (outcome-operable h)
      (split (AllOperable outputs) (repeated outputs arm h r) (λ _. tt)
      (λ _. (acts-operable (remembered_after outputs arm h).latch r (latch-operable h)).carried))

pub handed-operable : HandedOperable
handed-operable u o o₂ cs ans f e run =
    subst (AllOperable (outputs_set_up u)) (sym (operated-only-selected u o o₂ cs ans f e run).once) (outcome-operable (outputs_set_up u) u.arm_time _)
