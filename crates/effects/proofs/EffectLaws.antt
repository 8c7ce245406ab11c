-- Laws of a CONFIRM's step by what it comes to, and of what a request other than READ does.
-- Assumes nothing.
use mathlib.Core.Path.{◌≡◌, refl, sym, ap, subst, ◌∙◌}
use mathlib.Core.Bool.{Bool, true, false, cond}
use Rattle.std.specs.Prelude.{Some}
use mathlib.Core.List.{List, []}
use Rattle.std.proofs.Common.{Option, Some, None}
use Prim.Native.Nat.{ℕ, ◌≤◌}
use native.Mathlib.Omega.{arith}
use lib.Dec.{eqb}
use lib.ListN.{length}
use Rattle.application.specs.declared.Fault.TheVariants.{FunctionUnknown}
use Rattle.control.specs.Objects.{answer_max}
use Rattle.select_latch.specs.declared.ControlFunction.{ControlFunction}
use Rattle.select_latch.specs.declared.ControlFunction.TheVariants.{Select, Operate, DirectOperate, DirectOperateNoResponse}
use Rattle.last_request.proofs.ReplyLaws.{echo-most, unanswered-echo}
use Rattle.events.specs.BufferView.{BufferView, cleared}
use Rattle.outstation.specs.declared.Awaited.{Awaited}
use Rattle.outstation.specs.Requests.{is_confirmed}
use Rattle.outstation.specs.OutstationView.{OutstationView}
use Rattle.outstation.specs.Step.{Result, refusal, control_request_effect, write_effect, plain_effect, effect_by, confirmed_step, confirm_step}
use Rattle.effects.specs.declared.RequestEffect.{RequestEffect}
use Rattle.effects.specs.declared.RequestContext.{RequestContext}
use Rattle.effects.specs.Effects.{EffectMeetsWith, context_view, confirm_by, Confirms}

-- ---- a CONFIRM

module _ (w : OutstationView) (v : Option Awaited) (q : ℕ) (uns : Bool) (time : ℕ) where
  pub confirm-idle : v ≡ None → confirm_step w v q uns time ≡ refusal 32 w
  unfolding confirm_step
  confirm-idle e = rw e

  module _ (a : Awaited) (e : v ≡ Some a) (limit : ℕ)
      (same : w.shared.confirm_time ≡ limit) where
    pub confirm-late : is_confirmed limit q uns time a.sequence.0 a.time ≡ false → confirm_step w v q uns time ≡ refusal 32 w
    unfolding confirm_step
    confirm-late t = rw (e, same, t)

    pub confirm-good : is_confirmed limit q uns time a.sequence.0 a.time ≡ true → confirm_step w v q uns time ≡ confirmed_step w time a.showed_overflow a.dropped_since
    unfolding confirm_step
    confirm-good t = rw (e, same, t)

-- the step of a CONFIRM, by what it comes to
pub confirm-given : (w : OutstationView) (P : Result → Type 0) (v : Option Awaited) (q : ℕ) (uns : Bool) (time : ℕ) (x y : Option Awaited)
    → Confirms x w.shared.confirm_time v q uns time → x ≡ y → P (confirm_by y w time) → P (confirm_step w v q uns time)
confirm-given w P v q uns time x y is e h = subst P (sym (is w refl ∙ ap (λ (z : Option Awaited). confirm_by z w time) e)) h

-- ---- an effect's objects

-- an answer that is kept has at most 113 bytes
pub objects-most : (w : OutstationView) (q function time : ℕ) (o : List ℕ) → length (effect_by w q function time o).objects ≤ 109
objects-most w q function time o = go (eqb function 2) (eqb function 3) (eqb function 4) (eqb function 5) (eqb function 6)
  where
    most : (f : ControlFunction) → length (control_request_effect w f q time o).objects ≤ 109
    most f = echo-most w.shared.outputs w.shared.arm_time w.master.session.latch f q time o

    go : (a b c d e : Bool)
        → length
        (cond a (write_effect w o)
        (cond b (control_request_effect w Select q time o)
        (cond c (control_request_effect w Operate q time o)
        (cond d (control_request_effect w DirectOperate q time o)
        (cond e (control_request_effect w DirectOperateNoResponse q time o)
        (plain_effect w (Some FunctionUnknown) w.master.session.restarted)))))).objects ≤ 109
    go true b c d e = omega arith
    go false true c d e = most Select
    go false false true d e = most Operate
    go false false false true e = most DirectOperate
    go false false false false true = most DirectOperateNoResponse
    go false false false false false = omega arith

-- function 6 is never answered, so it has no objects
pub silent-objects : (w : OutstationView) (q function time : ℕ) (o : List ℕ) → function ≡ 6 → (effect_by w q function time o).objects ≡ []
silent-objects w q function time o e =
    ap (λ (n : ℕ). (effect_by w q n time o).objects) e
    ∙ unanswered-echo w.shared.outputs w.shared.arm_time w.master.session.latch DirectOperateNoResponse q time o refl

-- the events that a request other than READ leaves
pub effect-buffer : (w : OutstationView) (q function time : ℕ) (o : List ℕ) → cleared w.master.buffer ≡ (effect_by w q function time o).buffer
effect-buffer w q function time o = go (eqb function 2) (eqb function 3) (eqb function 4) (eqb function 5) (eqb function 6)
  where
    go : (a b c d e : Bool)
        → cleared w.master.buffer
        ≡ (cond a (write_effect w o)
        (cond b (control_request_effect w Select q time o)
        (cond c (control_request_effect w Operate q time o)
        (cond d (control_request_effect w DirectOperate q time o)
        (cond e (control_request_effect w DirectOperateNoResponse q time o)
        (plain_effect w (Some FunctionUnknown) w.master.session.restarted)))))).buffer
    go true b c d e = refl
    go false true c d e = refl
    go false false true d e = refl
    go false false false true e = refl
    go false false false false true = refl
    go false false false false false = refl

-- it awaits nothing
pub effect-idle : (w : OutstationView) (q function time : ℕ) (o : List ℕ) → (effect_by w q function time o).wait ≡ None
effect-idle w q function time o = go (eqb function 2) (eqb function 3) (eqb function 4) (eqb function 5) (eqb function 6)
  where
    go : (a b c d e : Bool)
        → (cond a (write_effect w o)
        (cond b (control_request_effect w Select q time o)
        (cond c (control_request_effect w Operate q time o)
        (cond d (control_request_effect w DirectOperate q time o)
        (cond e (control_request_effect w DirectOperateNoResponse q time o)
        (plain_effect w (Some FunctionUnknown) w.master.session.restarted)))))).wait
        ≡ None
    go true b c d e = refl
    go false true c d e = refl
    go false false true d e = refl
    go false false false true e = refl
    go false false false false true = refl
    go false false false false false = refl

-- its answer has at most 113 bytes
pub effect-small : (seen : RequestContext) (ws : List ℕ) (q function time : ℕ) (o : List ℕ) (r : RequestEffect) (b a : List ℕ)
    → EffectMeetsWith r b a (λ u. effect_by (context_view seen ws u) q function time o)
    → r.size ≤ answer_max
effect-small seen ws q function time o r b a worked =
    let u : BufferView = record { held = []; overflow = false } in
    omega (arith, objects-most (context_view seen ws u) q function time o, (worked u).size)
