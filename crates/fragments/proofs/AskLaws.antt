-- Laws of a fragment by what it is: refused, a CONFIRM, or a request of 2 to 2,048 bytes.
-- Assumes nothing.
use mathlib.Core.Path.{◌≡◌, sym, ap, subst, ◌∙◌}
use mathlib.Core.Bool.{Bool, true, false, cond}
use mathlib.Core.List.{List}
use Prim.Native.Nat.{ℕ}
use lib.Dec.{eqb, ltb}
use Rattle.laws.specs.Limits.{fragment_max}
use Rattle.laws.specs.Outcome.{Outcome}
use Rattle.std.specs.Prelude.{Option, Some, None}
use Rattle.application.specs.declared.ApplicationSequence.{ApplicationSequence}
use Rattle.application.specs.declared.Fragment.{Fragment}
use Rattle.application.specs.declared.Fragment.TheVariants as Ks
use Rattle.application.specs.Fragment.{Kind, classified, fragment_of, objects_of}
use Rattle.read_headers.specs.Parse.{Parsed, headers, fault}
use Rattle.static_objects.specs.Static.{asked_of}
use Rattle.last_request.specs.Repeat.{is_repeat}
use Rattle.outstation.specs.Readings.{bad_time}
use Rattle.outstation.specs.Requests.{asks, read_ask, outcome_ask, ask}
use Rattle.outstation.specs.OutstationView.{OutstationView}
use Rattle.outstation.specs.Step.{Result, fragment, step, fragment_step, refusal, on_ask, read_step, repeat_step, request_step, effect_by, confirm_step}
use Rattle.fragments.specs.FragmentMeets.{read_effect_by, request_by}

-- ---- the step

-- what holds of the step by what the fragment is, holds of the call's step
module _ (w : OutstationView) (time : ℕ) (f : List ℕ) (room : ℕ) (P : Result → Type 0) where
  pub fragment-late : bad_time w.shared.clock time ≡ true → P (refusal 1 w) → P (step (fragment time f room) w)
  unfolding step fragment_step
  fragment-late t h = rw t h

  pub fragment-small : bad_time w.shared.clock time ≡ false → ltb room fragment_max ≡ true → P (refusal 33 w)
      → P (step (fragment time f room) w)
  unfolding step fragment_step
  fragment-small t s h = rw (t, s) h

  module _ (t : bad_time w.shared.clock time ≡ false) (s : ltb room fragment_max ≡ false) (k : Option Fragment) (is : fragment_of k ≡ classified f) where
    by-outcome : (x : Outcome Kind) → x ≡ classified f → P (on_ask (outcome_ask w.shared.inputs f x) w time f)
        → P (step (fragment time f room) w)
    unfolding step fragment_step ask
    by-outcome x e h =
        rw (t, s) (subst (λ (y : Outcome Kind). P (on_ask (outcome_ask w.shared.inputs f y) w time f)) e h)

    pub fragment-malformed : k ≡ None → P (refusal 31 w) → P (step (fragment time f room) w)
    fragment-malformed e h = by-outcome (fragment_of None) (sym (ap fragment_of e) ∙ is) h

    pub fragment-confirm : (q : ApplicationSequence) (uns : Bool) → k ≡ Some (Ks.Confirm q uns)
        → P (confirm_step w w.master.session.wait q.0 uns time) → P (step (fragment time f room) w)
    fragment-confirm q uns e h = by-outcome (fragment_of (Some (Ks.Confirm q uns))) (sym (ap fragment_of e) ∙ is) h

    asked_by : (q function : ℕ) (c : Bool) (p : Parsed)
        → P
        (cond c (read_step w q time f (read_effect_by w q time p))
        (cond (is_repeat w.master.session.last f) (repeat_step w function time) (request_step w q function time f (effect_by w q function time (objects_of f)))))
        → P (on_ask (cond c (read_ask q p) (asks q function)) w time f)
    asked_by q function true (headers hs) h = h
    asked_by q function true (fault n) h = h
    asked_by q function false p h = h

    pub fragment-request : (q : ApplicationSequence) (function : ℕ) → k ≡ Some (Ks.Request q function)
        → P (request_by w q.0 function time f) → P (step (fragment time f room) w)
    fragment-request q function e h =
        by-outcome (fragment_of (Some (Ks.Request q function))) (sym (ap fragment_of e) ∙ is)
        (asked_by q.0 function (eqb function 1) (asked_of w.shared.inputs (objects_of f)) h)
