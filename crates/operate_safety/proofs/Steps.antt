-- One call: the outstation keeps the last request and the latch that the list of requests leaves, and hands over what that list says.
-- Assumes nothing.
use Prim.Native.Nat.{ℕ, suc, ◌≤◌}
use mathlib.Core.Path.{◌≡◌, refl, sym, ap, ◌∙◌}
use Rattle.std.specs.Prelude.{Some}
use mathlib.Core.Bool.{Bool, true, false, cond}
use mathlib.Core.List.{List, [], ◌∷◌, ◌++◌}
use borrow.Author.Tests.{eqb-true, ne_eqb}
use lib.Dec.{eqb, ltb}
use lib.ListN.{length}
use Rattle.laws.specs.Limits.{fragment_max, events_max}
use Rattle.laws.specs.Outcome.{Outcome, accepted, refused}
use Rattle.laws.proofs.SameLaws.{same_refl}
use Rattle.application.specs.Fragment as F
use Rattle.application.specs.Fragment.{function_of, sequence_of, control_of, is_confirm, objects_of}
use Rattle.control.specs.Status.{Outputs}
use Rattle.select_latch.specs.Select.{LatchView, no_select}
use Rattle.events.specs.BufferView.{BufferView, pushed, released}
use Rattle.events.specs.declared.Event.{Event}
use Rattle.points.specs.PointsView.{PointsView}
use Rattle.read_headers.specs.Parse.{Parsed, headers, fault}
use Rattle.static_objects.specs.Static.{asked_of}
use Rattle.last_request.specs.Repeat.{LastRequestView, nothing, kept, is_repeat}
use Rattle.last_request.specs.Requests as Q
use Rattle.last_request.specs.Requests.{Request, Acted, sequence_in, function_in, objects_in, InOrder, acted_by, acted, remembered_after, repeated}
use Rattle.last_request.proofs.Controls.{controls-safe}
use Rattle.outstation.specs.declared.Reading.{Reading}
use Rattle.outstation.specs.declared.Awaited.{Awaited}
use Rattle.std.proofs.Common.{Option, Some, None}
use Rattle.outstation.specs.Setup.{Setup, outputs_set_up}
use Rattle.outstation.specs.OutstationView.{OutstationView, MasterView, with_master, restarted}
use Rattle.outstation.specs.Readings.{bad_time, ReadingEffect, apply_reading}
use Rattle.outstation.specs.Requests.{Ask, malformed, confirms, asks, ask, read_ask, is_confirmed}
use Rattle.outstation.specs.Step as S
use Rattle.outstation.specs.Step.{Call, reading, table, fragment, Answer, Result, RequestEffect, on_effect, handed}
use Rattle.laws.proofs.Choices.{by, both, split}
use Rattle.operate_safety.specs.Operated.{one_request, request_asked, request_of, is_reply, Hands, Handing}
use Rattle.operate_safety.proofs.Times.{time-ok, effect-time, Since, since-start, since-later, since-next, since-request}

-- ---- a request's effect hands over what the list of requests says, and leaves the latch that it says

abbrev acted_of : RequestEffect → Acted
acted_of d = record { carried = d.operated; latch = d.latch }

effect-acts : (w : OutstationView) (r : Request) (n : ℕ)
    → acted_of (S.effect_by w (sequence_in r) n r.time (objects_in r)) ≡ acted_by w.shared.outputs w.shared.arm_time n w.master.session.latch r
effect-acts w r n =
    by (eqb n 2)
    (λ t. rw (eqb-true n 2 t))
    (λ t. rw t (by (eqb n 3) (λ a. rw a)
    (λ a. rw a (by (eqb n 4) (λ b. rw b)
    (λ b. rw b (by (eqb n 5) (λ d. rw d)
    (λ d. rw d (by (eqb n 6) (λ e. rw e) (λ e. rw e)))))))))

-- a READ is no repeat, hands over nothing and empties the latch
read-acts : (outputs : Outputs) (arm : ℕ) (l : LatchView) (r : Request) → function_in r ≡ 1 → acted outputs arm l r ≡ record { carried = []; latch = no_select }
unfolding acted
read-acts outputs arm l r f = rw f

read-new : (m : LastRequestView) (f : List ℕ) → eqb (function_of f) 1 ≡ true → is_repeat m f ≡ false
unfolding is_repeat
read-new nothing f e = refl
read-new (kept request answer) f e = rw e

-- ---- what is promised of a request that hands over what the list says

kept_again : (f answer : List ℕ) → (function_of f ≡ 1 → ⊥) → is_repeat (kept f answer) f ≡ true
unfolding is_repeat
kept_again f answer n = rw (ne_eqb (function_of f) 1 n, same_refl f)

module _ (outputs : Outputs) (arm : ℕ) where
  -- the request that is kept has the bytes of the latest
  latest-again : (p : Request) (h : List Request) → (function_in p ≡ 1 → ⊥) → is_repeat (remembered_after outputs arm (p ∷ h)).last p.bytes ≡ true
  unfolding remembered_after
  latest-again p h n =
      by (is_repeat (remembered_after outputs arm h).last p.bytes) (λ t. rw t t) (λ t. rw t (kept_again p.bytes p.answer n))

  hands-of : (h : List Request) (r : Request) (a : Answer) → is_reply a ≡ true → InOrder (r ∷ h) → handed a ≡ Q.hands_over outputs arm h r
      → Hands outputs arm h r a (handed a)
  hands-of h r a p i e =
      let safe = controls-safe outputs arm in
      record {
        reply = p;
        ordered = i;
        hands = e;
        selected = λ f n. safe.selected h r i f (λ z. n (e ∙ z));
        whole = λ f x s. e ∙ safe.whole h r f x s;
        again =
            λ q earlier b s n.
            let t : repeated outputs arm h r ≡ true = rw (b, s) (latest-again q earlier (λ z. n (ap function_of s ∙ z))) in
            e ∙ (safe.repeats h r t).0;
        repeats = λ t. e ∙ (safe.repeats h r t).0;
        others = λ x y z. e ∙ safe.others h r x y z;
      }

-- ---- the outstation that a list of accepted requests leaves

-- what that list does not say
pub record Extra : Type 0 where
  pub confirm_time : ℕ
  pub clock : ℕ
  pub inputs : PointsView
  pub buffer : BufferView
  pub restarted : Bool
  pub wait : Option Awaited

-- what holds of both cases of a reading
over_effect {ℓ} : {A : Type 0} (P : A → Type ℓ) (v : Outcome ReadingEffect) {x : ReadingEffect → A} {y : ℕ → A}
    → ((a : ReadingEffect) → v ≡ accepted a → P (x a)) → ((n : ℕ) → P (y n)) → P (on_effect v x y)
over_effect P (accepted a) p q = p a refl
over_effect P (refused n) p q = q n

-- what holds of every case of a fragment
ask-split : (P : Ask → Type 0) (i : PointsView) (f : List ℕ) → P malformed → ((q : ℕ) (uns : Bool) → P (confirms q uns))
    → (eqb (function_of f) 1 ≡ true → (q : ℕ) (p : Parsed) → P (read_ask q p)) → P (asks (sequence_of (control_of f)) (function_of f)) → P (ask i f)
unfolding ask
ask-split P i f m d r o =
    by (F.malformed f) (λ t. rw t m)
    (λ t. rw t (by (is_confirm f) (λ c. rw c (d (sequence_of (control_of f)) (eqb (F.uns_of (control_of f)) 1)))
    (λ c. rw c (by (eqb (function_of f) 1) (λ e. rw e (r e (sequence_of (control_of f)) (asked_of i (objects_of f)))) (λ e. rw e o)))))

module _ (outputs : Outputs) (arm : ℕ) where
  abbrev pub view : List Request → Extra → OutstationView
  view h x =
      record {
        shared = record { arm_time = arm; confirm_time = x.confirm_time; outputs = outputs; clock = x.clock; inputs = x.inputs };
        master =
            record {
              buffer = x.buffer;
              session =
                  record {
                    restarted = x.restarted;
                    wait = x.wait;
                    last = (remembered_after outputs arm h).last;
                    latch = (remembered_after outputs arm h).latch;
                  };
            };
      }

  pub record Sim (w : OutstationView) (h : List Request) : Type 0 where
    pub extra : Extra
    pub is : w ≡ view h extra
    -- the latest of them came no later than the clock
    pub since : Since extra.clock h

  -- a call that is the requests rs leaves what they leave, and hands over what they say
  pub record Does (h rs : List Request) (x : Result) : Type 0 where
    pub sim : Sim x.state (rs ++ h)
    pub handing : Handing outputs arm h rs x.answer (handed x.answer)

  none-ok : (h : List Request) (x : Extra) → Since x.clock h → (a : Answer) → is_reply a ≡ false → handed a ≡ []
      → Does h [] (record { state = view h x; answer = a })
  none-ok h x k a p e = record { sim = record { extra = x; is = refl; since = k }; handing = record { reply = p; none = e } }

  -- ---- readings

  abbrev effect_at : Extra → ℕ → PointsView → Extra
  effect_at x time i =
      record { confirm_time = x.confirm_time; clock = time; inputs = i; buffer = x.buffer; restarted = x.restarted; wait = x.wait }

  abbrev raised_to : Extra → BufferView → Option Awaited → Extra
  raised_to x k v =
      record { confirm_time = x.confirm_time; clock = x.clock; inputs = x.inputs; buffer = k; restarted = x.restarted; wait = v }

  raise-ok : (h : List Request) (x : Extra) → Since x.clock h → (e : Event) → Sim (with_master (S.raise e (view h x).master) (view h x)) h
  unfolding S.raise
  raise-ok h x k e =
      by (ltb (length x.buffer.held) events_max)
      (λ t. rw t (record { extra = raised_to x (pushed e x.buffer) x.wait; is = refl; since = k }))
      (λ t. rw t (record { extra = raised_to x (pushed e x.buffer) (S.noted x.wait); is = refl; since = k }))

  taken-ok : (h : List Request) (x : Extra) → Since x.clock h → (r : Reading) (a : ReadingEffect) → apply_reading x.clock x.inputs r ≡ accepted a
      → Sim (S.taken (view h x) r a) h
  unfolding S.taken_with
  taken-ok h x k r a e =
      let l = since-later h x.clock r.time (effect-time x.clock x.inputs r a e) k in
      let y = effect_at x r.time a.inputs in
      split (λ (m : MasterView). Sim (with_master m (view h y)) h) a.raised
      (λ _. raise-ok h y l a.event)
      (λ _. record { extra = y; is = refl; since = l })

  reading-ok : (h : List Request) (r : Reading) (x : Extra) → Since x.clock h → Does h [] (S.reading_step r (view h x))
  unfolding S.reading_step
  reading-ok h r x k =
      over_effect (Does h []) (apply_reading x.clock x.inputs r)
      (λ a e. record { sim = taken-ok h x k r a e; handing = record { reply = refl; none = refl } })
      (λ n. none-ok h x k (S.took 0 n) refl refl)

  table-ok : (h : List Request) (rs : List Reading) (n : ℕ) (x : Extra) → Since x.clock h → Does h [] (S.table_from rs n (view h x))
  unfolding S.table_from
  table-ok h [] n x k = none-ok h x k (S.took n 0) refl refl
  table-ok h (r ∷ rs) n x k =
      over_effect (Does h []) (apply_reading x.clock x.inputs r)
      (λ a e. let m = taken-ok h x k r a e in rw m.is (table-ok h rs (suc n) m.extra m.since))
      (λ y. none-ok h x k (S.took n y) refl refl)

  -- ---- CONFIRM: neither the last request nor the latch changes

  confirm-ok : (h : List Request) (x : Extra) → Since x.clock h → (v : Option Awaited) (q : ℕ) (uns : Bool) (time : ℕ) → x.clock ≤ time
      → Does h [] (S.confirm_step (view h x) v q uns time)
  unfolding S.confirm_step S.confirmed_step
  confirm-ok h x k None q uns time l = none-ok h x k (S.refuses 32) refl refl
  confirm-ok h x k (Some a) q uns time l =
      split (Does h []) (is_confirmed x.confirm_time q uns time a.sequence.0 a.time)
      (λ _. none-ok h
      (record {
        confirm_time = x.confirm_time;
        clock = time;
        inputs = x.inputs;
        buffer = S.clearing a.showed_overflow a.dropped_since (released x.buffer);
        restarted = x.restarted;
        wait = None;
      })
      (since-later h x.clock time l k) S.accepts refl refl)
      (λ _. none-ok h x k (S.refuses 32) refl refl)

  -- ---- requests

  -- one that is no repeat
  module _ (h : List Request) (x : Extra) (k : Since x.clock h) (time : ℕ) (in-time : x.clock ≤ time) (f : List ℕ) (d : RequestEffect) (new : is_repeat (remembered_after outputs arm h).last f ≡ false) where
    new_ok : (r : Request) (a : Answer) → r.bytes ≡ f → r.time ≡ time → acted_of d ≡ acted outputs arm (remembered_after outputs arm h).latch r → is_reply a ≡ true
        → handed a ≡ d.operated → Does h (r ∷ []) (record { state = S.after_request (view h x) time f r.answer d; answer = a })
    unfolding remembered_after
    new_ok r a b y e p q =
        let l₂ : x.clock ≤ r.time = rw y in-time in
        let t : repeated outputs arm h r ≡ false = rw b new in
        let l : d.latch ≡ (acted outputs arm (remembered_after outputs arm h).latch r).latch = ap (λ (y : Acted). y.latch) e in
        let c : d.operated ≡ (acted outputs arm (remembered_after outputs arm h).latch r).carried = ap (λ (y : Acted). y.carried) e in
        record {
          sim =
              record {
                extra =
                    record {
                      confirm_time = x.confirm_time;
                      clock = time;
                      inputs = x.inputs;
                      buffer = d.buffer;
                      restarted = d.restarted;
                      wait = d.wait;
                    };
                is = rw (t, l, b);
                since = rw (← y) (since-request h x.clock r l₂ k);
              };
          handing = hands-of outputs arm h r a p (since-next h x.clock r l₂ k) (q ∙ c ∙ rw t refl);
        }

    read_ok : (q : ℕ) → function_of f ≡ 1 → acted_of d ≡ record { carried = []; latch = no_select } → Does h (one_request f time []) (S.read_step (view h x) q time f d)
    unfolding S.read_step
    read_ok q n e =
        let r : Request = record { bytes = f; time = time; answer = [] } in
        new_ok r (S.answers (S.response_bytes q d) []) refl refl (e ∙ sym (read-acts outputs arm (remembered_after outputs arm h).latch r n)) refl
        (sym (ap (λ (y : Acted). y.carried) e))

    request-ok : (q function : ℕ)
        → ((answer : List ℕ) → acted_of d ≡ acted outputs arm (remembered_after outputs arm h).latch (record { bytes = f; time = time; answer = answer }))
        → Does h (one_request f time (cond (eqb function 6) [] (S.response_bytes q d))) (S.request_step (view h x) q function time f d)
    unfolding S.request_step
    request-ok q function e =
        by (eqb function 6)
        (λ t. rw t (new_ok (record { bytes = f; time = time; answer = [] }) (S.silent d.operated) refl refl (e []) refl refl))
        (λ t. rw t (new_ok (record { bytes = f; time = time; answer = S.response_bytes q d }) (S.answers (S.response_bytes q d) d.operated) refl refl
        (e (S.response_bytes q d)) refl refl))

  -- a repeat moves the clock
  repeat-ok : (h : List Request) (x : Extra) → Since x.clock h → (function : ℕ) (r : Request) → x.clock ≤ r.time → repeated outputs arm h r ≡ true
      → Does h (r ∷ []) (S.repeat_step (view h x) function r.time)
  unfolding S.repeat_step remembered_after
  repeat-ok h x k function r l t =
      record {
        sim = record { extra = effect_at x r.time x.inputs; is = rw t; since = since-request h x.clock r l k };
        handing =
            hands-of outputs arm h r _ (by (eqb function 6) (λ s. rw s) (λ s. rw s)) (since-next h x.clock r l k)
            (by (eqb function 6) (λ s. rw (s, t)) (λ s. rw (s, t)));
      }

  -- ---- fragments

  module _ (h : List Request) (x : Extra) (k : Since x.clock h) (time : ℕ) (in-time : x.clock ≤ time) (f : List ℕ) where
    reads_ok : eqb (function_of f) 1 ≡ true → (q : ℕ) (p : Parsed)
        → Does h (request_asked (read_ask q p) (view h x) time f) (S.on_ask (read_ask q p) (view h x) time f)
    reads_ok e q (headers hs) =
        read_ok h x k time in-time f (S.read_effect (view h x) q time hs) (read-new (remembered_after outputs arm h).last f e) q (eqb-true (function_of f) 1 e) refl
    reads_ok e q (fault n) =
        read_ok h x k time in-time f (S.plain_effect (view h x) (Some n) x.restarted) (read-new (remembered_after outputs arm h).last f e) q
        (eqb-true (function_of f) 1 e) refl

    abbrev effect : RequestEffect
    effect = S.effect_by (view h x) (sequence_of (control_of f)) (function_of f) time (objects_of f)

    effect_is : (answer : List ℕ) → acted_of effect ≡ acted outputs arm (remembered_after outputs arm h).latch (record { bytes = f; time = time; answer = answer })
    unfolding acted
    effect_is answer = effect-acts (view h x) (record { bytes = f; time = time; answer = answer }) (function_of f)

    asks-ok : (q function : ℕ) (d : RequestEffect)
        → ((answer : List ℕ) → acted_of d ≡ acted outputs arm (remembered_after outputs arm h).latch (record { bytes = f; time = time; answer = answer }))
        → Does h (one_request f time (cond (eqb function 6) [] (S.response_bytes q d)))
        (cond (is_repeat (remembered_after outputs arm h).last f) (S.repeat_step (view h x) function time) (S.request_step (view h x) q function time f d))
    asks-ok q function d e =
        split (Does h (one_request f time (cond (eqb function 6) [] (S.response_bytes q d)))) (is_repeat (remembered_after outputs arm h).last f)
        (λ t. repeat-ok h x k function (record { bytes = f; time = time; answer = cond (eqb function 6) [] (S.response_bytes q d) }) in-time t)
        (λ t. request-ok h x k time in-time f d t q function e)

    ask-ok : Does h (request_asked (ask x.inputs f) (view h x) time f) (S.on_ask (ask x.inputs f) (view h x) time f)
    ask-ok =
        ask-split (λ (k : Ask). Does h (request_asked k (view h x) time f) (S.on_ask k (view h x) time f)) x.inputs f
        (none-ok h x k (S.refuses 31) refl refl)
        (λ q uns. confirm-ok h x k x.wait q uns time in-time)
        reads_ok
        (asks-ok (sequence_of (control_of f)) (function_of f) effect effect_is)

  step-view : (h : List Request) (x : Extra) → Since x.clock h → (c : Call) → Does h (request_of c (view h x)) (S.step c (view h x))
  unfolding request_of S.step S.fragment_step
  step-view h x k (reading r) = reading-ok h r x k
  step-view h x k (table rs) = table-ok h rs 0 x k
  step-view h x k (fragment time f room) =
      both (Does h) (bad_time x.clock time)
      (λ _. none-ok h x k (S.refuses 1) refl refl)
      (λ t. both (Does h) (ltb room fragment_max) (λ _. none-ok h x k (S.refuses 33) refl refl)
      (λ _. ask-ok h x k time (time-ok x.clock time t) f))

  -- one call, from any outstation that the requests h leave
  pub step_ok : (c : Call) (w : OutstationView) (h : List Request) → Sim w h → Does h (request_of c w) (S.step c w)
  step_ok c w h m = rw m.is (step-view h m.extra m.since c)

pub start-ok : (u : Setup) → Sim (outputs_set_up u) u.arm_time (restarted u) []
unfolding restarted remembered_after
start-ok u =
    record {
      extra =
          record {
            confirm_time = u.confirm_time;
            clock = 0;
            inputs = (restarted u).shared.inputs;
            buffer = record { held = []; overflow = false };
            restarted = true;
            wait = None;
          };
      is = refl;
      since = since-start 0;
    }
