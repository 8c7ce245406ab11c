-- Laws of OPERATE's status, and of what a request does by the form of its object bytes.
-- Assumes nothing.
use mathlib.Core.Path.{◌≡◌, refl, sym, ◌∙◌}
use mathlib.Core.Bool.{Bool, true, false, cond, not}
use mathlib.Core.List.{List, [], ◌∷◌}
use Prim.Native.Nat.{ℕ, ◌+◌, ◌-◌, ◌≤◌}
use denote.Enum.Bare.{sameb}
use borrow.Author.Tests.{eq-eqb, le-leb}
use lib.Dec.{eqb, leb}
use lib.ListN.{take, drop}
use Rattle.laws.specs.First.{first, ◌⇒◌}
use Rattle.laws.specs.Lists.{all, same}
use Rattle.application.specs.Fragment.{next_of}
use Rattle.std.specs.Prelude.{Option, Some, None, Ok, Err}
use Rattle.application.specs.declared.Fault.{Fault}
use Rattle.control.specs.declared.Form.{Form}
use Rattle.control.specs.Objects.{formed, objects}
use Rattle.control.specs.Status.{Outputs}
use Rattle.select_latch.specs.contracts.ControlGroup as Groups
use Rattle.select_latch.specs.contracts.ControlFunction as Functions
use Rattle.select_latch.specs.declared.ControlGroup.{ControlGroup}
use Rattle.select_latch.specs.declared.ControlGroup.TheVariants as G
use Rattle.select_latch.specs.declared.ControlFunction.TheVariants as F
use Rattle.select_latch.specs.declared.Selection.{Selection}
use Rattle.select_latch.specs.declared.ControlFunction.{ControlFunction}
use Rattle.select_latch.specs.Select.{is_operate, is_unanswered, group_of, same_group, LatchView, no_select, selected, latch_of, operate_status, statuses_by, control_effect_with, control_effect}

-- ---- OPERATE's status, by the tests in the code's order

by_tests : (a b c d : Bool)
    → ◌≡◌ {A = ℕ} (first (all (a ∷ b ∷ c ∷ d ∷ []) ⇒ 0 ∷ all (a ∷ b ∷ c ∷ []) ⇒ 1 ∷ []) 2) (cond a (cond b (cond c (cond d 0 1) 2) 2) 2)
by_tests false b c d = refl
by_tests true false c d = refl
by_tests true true false d = refl
by_tests true true true false = refl
by_tests true true true true = refl

pub status-tested : (arm : ℕ) (l : Option Selection) (s : Selection) → l ≡ Some s → (g : ControlGroup) (sequence time : ℕ) (o : List ℕ)
    → operate_status arm (latch_of l) g sequence time o
    ≡ cond (same_group s.group g)
    (cond (same o (take s.len s.objects)) (cond (eqb sequence (next_of s.sequence.0)) (cond (leb (time - s.time) arm) 0 1) 2) 2)
    2
unfolding latch_of operate_status
status-tested arm l s e g sequence time o =
    rw e (by_tests (same_group s.group g) (same o (take s.len s.objects)) (eqb sequence (next_of s.sequence.0)) (leb (time - s.time) arm))

pub status-empty : (arm : ℕ) (l : Option Selection) → l ≡ None → (g : ControlGroup) (sequence time : ℕ) (o : List ℕ)
    → operate_status arm (latch_of l) g sequence time o ≡ 2
unfolding latch_of operate_status
status-empty arm l e g sequence time o = rw e

-- an OPERATE that is the one armed for, in time
pub operate-good : (arm : ℕ) (h : ControlGroup) (q t : ℕ) (s : List ℕ) (g : ControlGroup) (sequence time : ℕ) (o : List ℕ)
    → same_group h g ≡ true → same o s ≡ true → sequence ≡ next_of q → time - t ≤ arm
    → operate_status arm (selected h q t s) g sequence time o ≡ 0
unfolding operate_status
operate-good arm h q t s g sequence time o x y e l = rw (x, y, eq-eqb sequence (next_of q) e, le-leb (time - t) arm l)

-- the derived `==` of the groups
group-same : (a b : ControlGroup) → sameb Groups.the_type a b ≡ same_group a b
group-same G.Crob G.Crob = refl
group-same G.Crob G.AnalogOutput = refl
group-same G.AnalogOutput G.Crob = refl
group-same G.AnalogOutput G.AnalogOutput = refl

-- what a test by `!=` tells
pub is_so : (t : Bool) → false ≡ not t → t ≡ true
is_so true e = refl
is_so false e = cc

pub not_so : (t : Bool) → true ≡ not t → t ≡ false
not_so false e = refl
not_so true e = cc

pub alike : (a b : ControlGroup) → false ≡ not (sameb Groups.the_type a b) → same_group a b ≡ true
alike a b e = sym (group-same a b) ∙ is_so (sameb Groups.the_type a b) e

pub apart : (a b : ControlGroup) → true ≡ not (sameb Groups.the_type a b) → same_group a b ≡ false
apart a b e = sym (group-same a b) ∙ not_so (sameb Groups.the_type a b) e

-- the derived `==` of the functions
pub operate-is : (f : ControlFunction) → sameb Functions.the_type f F.Operate ≡ is_operate f
operate-is F.Select = refl
operate-is F.Operate = refl
operate-is F.DirectOperate = refl
operate-is F.DirectOperateNoResponse = refl

pub unanswered-is : (f : ControlFunction) → sameb Functions.the_type f F.DirectOperateNoResponse ≡ is_unanswered f
unanswered-is F.Select = refl
unanswered-is F.Operate = refl
unanswered-is F.DirectOperate = refl
unanswered-is F.DirectOperateNoResponse = refl

-- ---- the effect, by the form

module _ (u : Outputs) (arm : ℕ) (l : LatchView) (f : ControlFunction) (sequence time : ℕ) (o : List ℕ) where
  pub effect-wrong : (x : Fault) → formed o ≡ Err x
      → control_effect u arm l f sequence time o ≡ record { fault = Some x; echo = []; carried = []; latch = no_select }
  unfolding control_effect
  effect-wrong x e = rw e

  pub effect-objects : (x : Form) → formed o ≡ Ok x
      → control_effect u arm l f sequence time o
      ≡ control_effect_with f sequence time o x.kind x.width (objects x.kind x.width x.count (drop (3 + x.width) o))
      (statuses_by f u (operate_status arm l (group_of x.kind) sequence time o) (objects x.kind x.width x.count (drop (3 + x.width) o)))
  unfolding control_effect
  effect-objects x e = rw e
