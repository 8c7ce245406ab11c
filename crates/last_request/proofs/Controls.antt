-- Over every list of accepted requests: an OPERATE carries out objects only when the request before it, repeats aside, was a SELECT with
-- all statuses 0, equal objects and the preceding sequence, in time; then it carries out all; and a repeat carries out nothing.
-- Assumes nothing.
use mathlib.Core.Path.{◌≡◌, refl, sym, ap, subst, ◌∙◌}
use mathlib.Core.Bool.{Bool, true, false, cond}
use mathlib.Core.List.{List, [], ◌∷◌, append-nil}
use Prim.Native.Nat.{ℕ, ◌+◌, ◌-◌, ◌≤◌}
use native.Mathlib.Omega.{arith}
use borrow.Author.Tests.{eq-eqb, ne_eqb, eqb-true, eqb-false, leb-true}
use lib.Dec.{eqb, leb}
use lib.ListN.{length, drop, replicate}
use Rattle.laws.specs.Lists.{all, same}
use Rattle.application.specs.Fragment.{next_of}
use Rattle.laws.proofs.SameLaws.{same-eq, same_refl}
use Rattle.laws.proofs.AllLaws.{all-four}
use Rattle.control.specs.declared.ObjectKind.{ObjectKind}
use Rattle.control.specs.declared.ControlObject.{ControlObject}
use Rattle.control.specs.declared.Form.{Form}
use Rattle.std.specs.Prelude.{Result, Ok, Err}
use Rattle.application.specs.declared.Fault.{Fault}
use Rattle.control.specs.Objects.{formed, objects}
use Rattle.control.specs.Status.{Outputs, statuses, all_zero, chosen}
use Rattle.select_latch.specs.declared.ControlFunction.{ControlFunction}
use Rattle.select_latch.specs.declared.ControlFunction.TheVariants.{Select, Operate, DirectOperate, DirectOperateNoResponse}
use Rattle.select_latch.specs.declared.ControlGroup.{ControlGroup}
use Rattle.select_latch.specs.declared.ControlGroup.TheVariants as G
use Rattle.select_latch.specs.Select.{group_of, same_group, LatchView, no_select, selected, operate_status, control_effect, by_form}
use Rattle.select_latch.proofs.Laws.{operate-good}
use Rattle.last_request.specs.Repeat.{kept}
use Rattle.last_request.specs.Requests.{Request, sequence_in, function_in, objects_in, InOrder, controls, acted, remembered_after, repeated, outcome, new_requests}
use Rattle.last_request.specs.Operates.{
  Selects,
  Allowed,
  OperatesOnlySelected,
  OperatesWhole,
  RepeatsDoNothing,
  NothingTwice,
  OthersHandNothing,
  ControlsSafe,
}

-- ---- the objects with status 0 of an OPERATE are none or all

pub chosen_none : (cs : List ControlObject) (s : ℕ) → (s ≡ 0 → ⊥) → chosen cs (replicate (length cs) s) ≡ []
unfolding chosen
chosen_none [] s h = refl
chosen_none (c ∷ cs) s h = rw (ne_eqb s 0 h) (chosen_none cs s h)

pub chosen-all : (cs : List ControlObject) → chosen cs (replicate (length cs) 0) ≡ cs
unfolding chosen
chosen-all [] = refl
chosen-all (c ∷ cs) = ap (λ (r : List ControlObject). c ∷ r) (chosen-all cs)

-- ---- what OPERATE's status 0 says of the latch

pub record Armed (arm : ℕ) (l : LatchView) (sequence time : ℕ) (o : List ℕ) : Type 0 where
  pub armed_for : ControlGroup
  pub select_sequence : ℕ
  pub select_time : ℕ
  pub latched : l ≡ selected armed_for select_sequence select_time o
  pub next : sequence ≡ next_of select_sequence
  pub timely : time - select_time ≤ arm

pub operate-zero : (arm : ℕ) (l : LatchView) (g : ControlGroup) (sequence time : ℕ) (o : List ℕ) → operate_status arm l g sequence time o ≡ 0
    → Armed arm l sequence time o
unfolding operate_status
operate-zero arm no_select g sequence time o h = absurd (omega arith)
operate-zero arm (selected k q t s) g sequence time o h =
    go (all (same_group k g ∷ same o s ∷ eqb sequence (next_of q) ∷ leb (time - t) arm ∷ [])) (all (same_group k g ∷ same o s ∷ eqb sequence (next_of q) ∷ [])) refl h where
      go : (x y : Bool) → all (same_group k g ∷ same o s ∷ eqb sequence (next_of q) ∷ leb (time - t) arm ∷ []) ≡ x → ◌≡◌ {A = ℕ} (cond x 0 (cond y 1 2)) 0
          → Armed arm (selected k q t s) sequence time o
      go true y e z =
          let b = all-four (same_group k g) (same o s) (eqb sequence (next_of q)) (leb (time - t) arm) e in
          record {
            armed_for = k;
            select_sequence = q;
            select_time = t;
            latched = ap (selected k q t) (sym (same-eq o s b.1));
            next = eqb-true sequence (next_of q) b.2;
            timely = leb-true (time - t) arm b.3;
          }
      go false true e z = absurd (omega arith)
      go false false e z = absurd (omega arith)

-- ---- a request that leaves the latch armed is a SELECT with all statuses 0, and leaves it armed with its own sequence, time and objects

pub record Arms (outputs : Outputs) (arm : ℕ) (r : Request) (g : ControlGroup) (q t : ℕ) (o : List ℕ) : Type 0 where
  pub selects : Selects outputs r
  -- for relays or for analog outputs, as it asks
  pub armed_for : g ≡ group_of selects.kind
  pub sequence : q ≡ sequence_in r
  pub time : t ≡ r.time
  pub objects : o ≡ objects_in r

module _ (outputs : Outputs) (arm : ℕ) (l : LatchView) (r : Request) where
  -- of a SELECT
  select-arms : function_in r ≡ 3 → (g : ControlGroup) (q t : ℕ) (o : List ℕ) → (controls outputs arm Select l r).latch ≡ selected g q t o
      → Arms outputs arm r g q t o
  unfolding control_effect
  select-arms f g q t o e = over_form (formed (objects_in r)) refl e where
    zero : (j : ObjectKind) (w n : ℕ) → formed (objects_in r) ≡ Ok (record { kind = j; width = w; count = n })
        → (b : Bool) → all_zero (statuses outputs [] (objects j w n (drop (3 + w) (objects_in r)))) ≡ b
        → cond (all (true ∷ b ∷ [])) (selected (group_of j) (sequence_in r) r.time (objects_in r)) no_select ≡ selected g q t o
        → Arms outputs arm r g q t o
    zero j w n x true z k =
        record {
          selects = record { function = f; kind = j; width = w; count = n; form = x; zeros = z };
          armed_for = cc;
          sequence = cc;
          time = cc;
          objects = cc;
        }
    zero j w n x false z k = let y : ◌≡◌ {A = ℕ} 0 1 = cc in absurd (omega arith)

    over_form : (x : Result Form Fault) → formed (objects_in r) ≡ x → (by_form x outputs arm l Select (sequence_in r) r.time (objects_in r)).latch ≡ selected g q t o
        → Arms outputs arm r g q t o
    over_form (Err y) x k = let z : ◌≡◌ {A = ℕ} 0 1 = cc in absurd (omega arith)
    over_form (Ok i) x k = zero i.kind i.width i.count x (all_zero (statuses outputs [] (objects i.kind i.width i.count (drop (3 + i.width) (objects_in r))))) refl k

  -- of another control
  others-empty : (f : ControlFunction) → (g : (x : Result Form Fault) → (by_form x outputs arm l f (sequence_in r) r.time (objects_in r)).latch ≡ no_select)
      → (controls outputs arm f l r).latch ≡ no_select
  unfolding control_effect
  others-empty f g = g (formed (objects_in r))

  operate-empties : (x : Result Form Fault) → (by_form x outputs arm l Operate (sequence_in r) r.time (objects_in r)).latch ≡ no_select
  operate-empties (Err y) = refl
  operate-empties (Ok x) = refl

  direct-empties : (x : Result Form Fault) → (by_form x outputs arm l DirectOperate (sequence_in r) r.time (objects_in r)).latch ≡ no_select
  direct-empties (Err y) = refl
  direct-empties (Ok x) = refl

  unanswered-empties : (x : Result Form Fault) → (by_form x outputs arm l DirectOperateNoResponse (sequence_in r) r.time (objects_in r)).latch ≡ no_select
  unanswered-empties (Err y) = refl
  unanswered-empties (Ok x) = refl

  never : (s : LatchView) (g : ControlGroup) (q t : ℕ) (o : List ℕ) → s ≡ no_select → s ≡ selected g q t o → Arms outputs arm r g q t o
  never s g q t o e k = let z : ◌≡◌ {A = ℕ} 0 1 = cc in absurd (omega arith)

  acted-arms : (g : ControlGroup) (q t : ℕ) (o : List ℕ) → (acted outputs arm l r).latch ≡ selected g q t o → Arms outputs arm r g q t o
  unfolding acted
  acted-arms g q t o e = go (eqb (function_in r) 3) (eqb (function_in r) 4) (eqb (function_in r) 5) (eqb (function_in r) 6) refl e where
    go : (a b c d : Bool) → eqb (function_in r) 3 ≡ a
        → (cond a (controls outputs arm Select l r)
        (cond b (controls outputs arm Operate l r)
        (cond c (controls outputs arm DirectOperate l r) (cond d (controls outputs arm DirectOperateNoResponse l r) (record { carried = []; latch = no_select }))))).latch
        ≡ selected g q t o
        → Arms outputs arm r g q t o
    go true b c d x k = select-arms (eqb-true (function_in r) 3 x) g q t o k
    go false true c d x k = never _ g q t o (others-empty Operate operate-empties) k
    go false false true d x k = never _ g q t o (others-empty DirectOperate direct-empties) k
    go false false false true x k = never _ g q t o (others-empty DirectOperateNoResponse unanswered-empties) k
    go false false false false x k = never _ g q t o refl k

  -- an OPERATE, of one group or the other, has status 0
  abbrev Zero : Type 0
  Zero = (g : ControlGroup) × (operate_status arm l g (sequence_in r) r.time (objects_in r) ≡ 0)

  -- where it carries something out
  operate-acts : function_in r ≡ 4 → ((acted outputs arm l r).carried ≡ [] → ⊥) → Zero
  unfolding acted control_effect
  operate-acts f h =
      over_form (formed (objects_in r)) (λ k. h (rw (ne_eqb (function_in r) 3 (λ x. differ (function_in r) f x), eq-eqb (function_in r) 4 f) k)) where
        differ : (n : ℕ) → n ≡ 4 → n ≡ 3 → ⊥
        differ n x y = omega arith

        decided : (j : ObjectKind) (w n : ℕ) (b : Bool) → eqb (operate_status arm l (group_of j) (sequence_in r) r.time (objects_in r)) 0 ≡ b
            → ((by_form (Ok (record { kind = j; width = w; count = n })) outputs arm l Operate (sequence_in r) r.time (objects_in r)).carried ≡ [] → ⊥) → Zero
        decided j w n true e k = (group_of j, eqb-true _ 0 e)
        decided j w n false e k = absurd (k (chosen_none (objects j w n (drop (3 + w) (objects_in r))) _ (eqb-false _ 0 e)))

        over_form : (x : Result Form Fault) → ((by_form x outputs arm l Operate (sequence_in r) r.time (objects_in r)).carried ≡ [] → ⊥) → Zero
        over_form (Err y) k = absurd (k refl)
        over_form (Ok x) k = decided x.kind x.width x.count (eqb (operate_status arm l (group_of x.kind) (sequence_in r) r.time (objects_in r)) 0) refl k

-- ---- histories

head-is : (a b : Request) (x y : List Request) → a ∷ x ≡ b ∷ y → b ≡ a
head-is a b x y e = cc

module _ (outputs : Outputs) (arm : ℕ) where
  -- where times never fall, the latest request that is no repeat came no later than the next request
  latest-earlier : (h : List Request) (r s : Request) (e : List Request) → InOrder (r ∷ h) → new_requests outputs arm h ≡ s ∷ e → s.time ≤ r.time
  unfolding new_requests
  latest-earlier [] r s e i n = let z : ◌≡◌ {A = ℕ} 0 1 = cc in absurd (omega arith)
  latest-earlier (q ∷ h) r s e i n = go (repeated outputs arm h q) (latest-earlier h q s e i.1) n where
    go : (b : Bool) → (new_requests outputs arm h ≡ s ∷ e → s.time ≤ q.time) → cond b (new_requests outputs arm h) (q ∷ new_requests outputs arm h) ≡ s ∷ e → s.time ≤ r.time
    go true ih k = let x = ih k in let y = i.0 in omega arith
    go false ih k = rw (head-is q s (new_requests outputs arm h) e k) i.0

  -- an armed latch was armed by the latest request that is no repeat
  pub record ArmedBy (h : List Request) (g : ControlGroup) (q t : ℕ) (o : List ℕ) : Type 0 where
    pub select : Request
    pub earlier : List Request
    pub before : new_requests outputs arm h ≡ select ∷ earlier
    pub arms : Arms outputs arm select g q t o

  armed-by : (h : List Request) (g : ControlGroup) (q t : ℕ) (o : List ℕ) → (remembered_after outputs arm h).latch ≡ selected g q t o → ArmedBy h g q t o
  unfolding remembered_after new_requests
  armed-by [] g q t o e = let z : ◌≡◌ {A = ℕ} 0 1 = cc in absurd (omega arith)
  armed-by (r ∷ h) g q t o e = go (repeated outputs arm h r) refl (armed-by h g q t o) e where
    go : (b : Bool) → repeated outputs arm h r ≡ b → ((remembered_after outputs arm h).latch ≡ selected g q t o → ArmedBy h g q t o)
        → (cond b (remembered_after outputs arm h) (record { last = kept r.bytes r.answer; latch = (acted outputs arm (remembered_after outputs arm h).latch r).latch })).latch
        ≡ selected g q t o
        → ArmedBy (r ∷ h) g q t o
    go true x ih k =
        let i = ih k in
        record { select = i.select; earlier = i.earlier; before = rw x i.before; arms = i.arms }
    go false x ih k = record { select = r; earlier = new_requests outputs arm h; before = rw x refl; arms = acted-arms outputs arm (remembered_after outputs arm h).latch r g q t o k }

  -- objects are carried out on OPERATE only when it is allowed
  pub operates-only-selected : OperatesOnlySelected outputs arm
  operates-only-selected h r i f n = go (repeated outputs arm h r) refl n where
    go : (b : Bool) → repeated outputs arm h r ≡ b → (cond b [] (acted outputs arm (remembered_after outputs arm h).latch r).carried ≡ [] → ⊥) → Allowed outputs arm h r
    go true x k = absurd (k refl)
    go false x k =
        let z = operate-acts outputs arm (remembered_after outputs arm h).latch r f k in
        let a = operate-zero arm (remembered_after outputs arm h).latch z.0 (sequence_in r) r.time (objects_in r) z.1 in
        let s = armed-by h a.armed_for a.select_sequence a.select_time (objects_in r) a.latched in
        let timely : r.time - a.select_time ≤ arm = a.timely in
        record {
          select = s.select;
          earlier = s.earlier;
          before = s.before;
          selects = s.arms.selects;
          objects = s.arms.objects;
          sequence = a.next ∙ ap next_of s.arms.sequence;
          ordered = latest-earlier h r s.select s.earlier i s.before;
          timely = rw (← s.arms.time) timely;
        }

  pub repeats-do-nothing : RepeatsDoNothing outputs arm
  unfolding remembered_after
  repeats-do-nothing h r e = (rw e, rw e, rw e)

  -- taking the repeats out of a history changes neither what is left behind nor what was handed over: nothing is carried out twice
  news-after : (h : List Request) → remembered_after outputs arm (new_requests outputs arm h) ≡ remembered_after outputs arm h
  unfolding remembered_after new_requests
  news-after [] = refl
  news-after (r ∷ h) = go (repeated outputs arm h r) refl (news-after h) where
    go : (b : Bool) → repeated outputs arm h r ≡ b → remembered_after outputs arm (new_requests outputs arm h) ≡ remembered_after outputs arm h
        → remembered_after outputs arm (cond b (new_requests outputs arm h) (r ∷ new_requests outputs arm h)) ≡ remembered_after outputs arm (r ∷ h)
    go true x ih = rw x ih
    go false x ih = rw (ih, x) refl

  news-outcome : (h : List Request) → outcome outputs arm (new_requests outputs arm h) ≡ outcome outputs arm h
  unfolding outcome new_requests
  news-outcome [] = refl
  news-outcome (r ∷ h) = go (repeated outputs arm h r) refl (news-outcome h) (news-after h) where
    go : (b : Bool) → repeated outputs arm h r ≡ b → outcome outputs arm (new_requests outputs arm h) ≡ outcome outputs arm h
        → remembered_after outputs arm (new_requests outputs arm h) ≡ remembered_after outputs arm h
        → outcome outputs arm (cond b (new_requests outputs arm h) (r ∷ new_requests outputs arm h)) ≡ outcome outputs arm (r ∷ h)
    go true x ih k = rw x (ih ∙ sym (append-nil (outcome outputs arm h)))
    go false x ih k = rw (ih, k) refl

-- ---- the other way: an OPERATE that is allowed, and no repeat, carries out all its objects

module _ (outputs : Outputs) (arm : ℕ) where
  selects-arms : (l : LatchView) (r : Request) (s : Selects outputs r)
      → (acted outputs arm l r).latch ≡ selected (group_of s.kind) (sequence_in r) r.time (objects_in r)
  unfolding acted control_effect
  selects-arms l r s = rw (eq-eqb (function_in r) 3 s.function, s.form, s.zeros)

  armed_after : (h : List Request) (s : Request) (e : List Request) → new_requests outputs arm h ≡ s ∷ e → (y : Selects outputs s)
      → (remembered_after outputs arm h).latch ≡ selected (group_of y.kind) (sequence_in s) s.time (objects_in s)
  unfolding remembered_after new_requests
  armed_after [] s e n y = let z : ◌≡◌ {A = ℕ} 0 1 = cc in absurd (omega arith)
  armed_after (r ∷ h) s e n y = go (repeated outputs arm h r) refl (armed_after h s e) n where
    go : (b : Bool) → repeated outputs arm h r ≡ b
        → (new_requests outputs arm h ≡ s ∷ e → (y : Selects outputs s) → (remembered_after outputs arm h).latch ≡ selected (group_of y.kind) (sequence_in s) s.time (objects_in s))
        → cond b (new_requests outputs arm h) (r ∷ new_requests outputs arm h) ≡ s ∷ e
        → (remembered_after outputs arm (r ∷ h)).latch ≡ selected (group_of y.kind) (sequence_in s) s.time (objects_in s)
    go true x ih k = rw x (ih k y)
    go false x ih k = rw (x, head-is r s (new_requests outputs arm h) e k) (selects-arms (remembered_after outputs arm h).latch r (subst (Selects outputs) (head-is r s (new_requests outputs arm h) e k) y))

  operate-runs : (l : LatchView) (r : Request) (j : ObjectKind) (w n : ℕ) → function_in r ≡ 4 → formed (objects_in r) ≡ Ok (record { kind = j; width = w; count = n })
      → operate_status arm l (group_of j) (sequence_in r) r.time (objects_in r) ≡ 0
      → (acted outputs arm l r).carried ≡ objects j w n (drop (3 + w) (objects_in r))
  unfolding acted control_effect
  operate-runs l r j w n f x z =
      let no : function_in r ≡ 3 → ⊥ = λ k. differ (function_in r) f k in
      rw (ne_eqb (function_in r) 3 no, eq-eqb (function_in r) 4 f, x, z) (chosen-all (objects j w n (drop (3 + w) (objects_in r)))) where
        differ : (i : ℕ) → i ≡ 4 → i ≡ 3 → ⊥
        differ i p q = omega arith

  group-same : (g : ControlGroup) → same_group g g ≡ true
  group-same G.Crob = refl
  group-same G.AnalogOutput = refl

  pub operates-whole : OperatesWhole outputs arm
  operates-whole h r f x a =
      let s = a.select in
      let g = group_of a.selects.kind in
      let l = armed_after h s a.earlier a.before a.selects in
      let form = ap formed a.objects ∙ a.selects.form in
      let o = ap (same (objects_in r)) (sym a.objects) ∙ same_refl (objects_in r) in
      let z =
      ap (λ (k : LatchView). operate_status arm k g (sequence_in r) r.time (objects_in r)) l
      ∙ operate-good arm g (sequence_in s) s.time (objects_in s) g (sequence_in r) r.time (objects_in r) (group-same g) o a.sequence a.timely in
      rw x (operate-runs (remembered_after outputs arm h).latch r a.selects.kind a.selects.width a.selects.count f form z)

-- ---- what the other functions hand over

module _ (outputs : Outputs) (arm : ℕ) (l : LatchView) (r : Request) where
  select-hands : (x : Result Form Fault) → (by_form x outputs arm l Select (sequence_in r) r.time (objects_in r)).carried ≡ []
  select-hands (Err y) = refl
  select-hands (Ok x) = refl

  others-act : (function_in r ≡ 4 → ⊥) → (function_in r ≡ 5 → ⊥) → (function_in r ≡ 6 → ⊥) → (acted outputs arm l r).carried ≡ []
  unfolding acted control_effect
  others-act a b d =
      rw (ne_eqb (function_in r) 4 a, ne_eqb (function_in r) 5 b, ne_eqb (function_in r) 6 d) (go (eqb (function_in r) 3)) where
        go : (t : Bool) → (cond t (controls outputs arm Select l r) (record { carried = []; latch = no_select })).carried ≡ []
        go true = select-hands (formed (objects_in r))
        go false = refl

module _ (outputs : Outputs) (arm : ℕ) where
  pub others-hand-nothing : OthersHandNothing outputs arm
  others-hand-nothing h r a b d = go (repeated outputs arm h r) where
    go : (t : Bool) → cond t [] (acted outputs arm (remembered_after outputs arm h).latch r).carried ≡ []
    go true = refl
    go false = others-act outputs arm (remembered_after outputs arm h).latch r a b d

pub nothing-twice : (outputs : Outputs) (arm : ℕ) → NothingTwice outputs arm
nothing-twice outputs arm h = (news-after outputs arm h, news-outcome outputs arm h)

pub controls-safe : (outputs : Outputs) (arm : ℕ) → ControlsSafe outputs arm
controls-safe outputs arm =
    record {
      selected = operates-only-selected outputs arm;
      whole = operates-whole outputs arm;
      repeats = repeats-do-nothing outputs arm;
      once = nothing-twice outputs arm;
      others = others-hand-nothing outputs arm;
    }
