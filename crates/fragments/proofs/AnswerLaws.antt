-- Laws of an answer put together: the header in front of what a request put, what is kept, what is left.
-- Assumes nothing.
use mathlib.Core.Path.{◌≡◌, refl, sym, ap, ap₂, subst, ◌∙◌}
use mathlib.Core.Bool.{Bool, true, false, cond, not, ◌&&◌}
use mathlib.Core.List.{List, []}
use Prim.Native.Nat.{ℕ, ◌+◌, ◌≤◌}
use native.Mathlib.Omega.{arith}
use Rattle.std.proofs.Common.{Ok}
use Rattle.std.specs.Int.{from_bool}
use lib.Dec.{eqb}
use borrow.Author.Tests.{eqb-true}
use lib.ListN.{length, take, length-append}
use Rattle.laws.specs.Limits.{fragment_max}
use Rattle.octets.specs.Bytes.{splice}
use Rattle.octets.proofs.Splice.{splice-nil}
use Rattle.std.specs.Prelude.{Option}
use Rattle.application.specs.declared.Fault.{Fault}
use Rattle.application.specs.declared.Indications.{Indications}
use Rattle.application.specs.Fragment.{objects_of}
use Rattle.application.specs.Response.{response_of}
use Rattle.application.proofs.AnswerLaws.{answer-whole}
use Rattle.read_headers.specs.Parse.{Parsed, headers, fault}
use Rattle.static_objects.specs.Static.{asked_of}
use Rattle.read.specs.Response.{buffer_after, response_objects}
use Rattle.read.proofs.ResponseLaws.{response-fits}
use Rattle.control.specs.declared.ControlObjects.{ControlObjects}
use Rattle.control.specs.Objects.{Holding}
use Rattle.select_latch.specs.Select.{latch_of}
use Rattle.last_request.specs.Repeat.{LastRequestView, kept, kept_answer, is_repeat}
use Rattle.last_request.proofs.ReplyLaws.{answer-taken}
use Rattle.events.specs.BufferView.{Buffer, BufferView, buffer_view, released}
use Rattle.words.specs.Numbers.{holds}
use Rattle.outstation.specs.OutstationView.{OutstationView, SessionView}
use Rattle.outstation.specs.Step.{Result, answers, silent, after_request, at_time, indications_of, indications, response_bytes, effect_by, read_step, request_step, repeat_step, clearing}
use Rattle.outstation.specs.Step as S
use Rattle.effects.specs.declared.RequestEffect.{RequestEffect}
use Rattle.effects.specs.Effects.{EffectMeets}
use Rattle.fragments.specs.declared.FragmentAnswer.{FragmentAnswer}
use Rattle.fragments.specs.declared.FragmentAnswer.TheVariants as Fs
use Rattle.fragments.specs.FragmentMeets.{AnsweredAs, left_with, read_effect_by, request_by}

pub length-response : (q : ℕ) (con : Bool) (i : Indications) (f : Option Fault) → length (response_of q con i f) ≡ 4
unfolding response_of
length-response q con i f = refl

-- a flag as a byte of the head
pub bit-holds : (b : Bool) (n : ℕ) → n ≡ from_bool b → holds n ≡ b
bit-holds true n e = ap holds e
bit-holds false n e = ap holds e

-- ---- a CONFIRM

-- the events that wait, and IIN2.3 by the rule
pub overflow-stored : (b c : Buffer) (showed_overflow dropped_since x : Bool) → buffer_view c ≡ released (buffer_view b) → x ≡ cond (showed_overflow && not dropped_since) false c.overflow
    → buffer_view (record { held = c.held; count = c.count; overflow = x }) ≡ clearing showed_overflow dropped_since (released (buffer_view b))
unfolding buffer_view
overflow-stored b c showed_overflow dropped_since x e h =
    λ k.
    record {
      held = (e k).held;
      overflow = (h ∙ ap (λ (y : BufferView). cond (showed_overflow && not dropped_since) false y.overflow) e) k;
    }

-- ---- an answer

module _ (q : ℕ) (r : RequestEffect) (b a₁ a₂ : List ℕ) (d : S.RequestEffect) (w : EffectMeets r b a₁ d) (k : BufferView) (marked : k ≡ d.buffer)
    (put : a₂ ≡ splice a₁ 0 (response_of q r.con (indications_of k r.restarted) r.fault)) where
  header_is : response_of q r.con (indications_of k r.restarted) r.fault ≡ response_of q d.con (indications d) d.fault
  header_is = rw (w.con, marked, w.restarted, w.fault)

  pub answer-lent : a₂ ≡ splice b 0 (response_bytes q d)
  answer-lent =
      put
      ∙ ap₂ (λ (x h : List ℕ). splice x 0 h) w.lent header_is
      ∙ answer-whole b (response_of q d.con (indications d) d.fault) d.objects (length-response q d.con (indications d) d.fault)

  pub answer-size : r.size ≡ length (response_bytes q d)
  answer-size =
      w.size
      ∙ sym
      (length-append (response_of q d.con (indications d) d.fault) d.objects
      ∙ ap (λ (n : ℕ). n + length d.objects) (length-response q d.con (indications d) d.fault))

  pub answer-is : r.size ≤ length b → take r.size a₂ ≡ response_bytes q d
  answer-is room = answer-taken b a₂ (response_bytes q d) r.size answer-lent answer-size room

-- ---- what is left

module _ (w s : OutstationView) (r : RequestEffect) (b a₁ : List ℕ) (d : S.RequestEffect) (worked : EffectMeets r b a₁ d) (k : BufferView) (marked : k ≡ d.buffer) (x : SessionView)
    (time : ℕ) (m : LastRequestView) (f a : List ℕ) (leaves : s ≡ left_with w time w.shared.inputs k x)
    (holds : x ≡ record { restarted = r.restarted; wait = r.wait; last = m; latch = latch_of r.latch }) (keeps : m ≡ kept f a) where
  left-session : x ≡ record { restarted = d.restarted; wait = d.wait; last = kept f a; latch = d.latch }
  left-session =
      holds ∙ (λ i. record { restarted = worked.restarted i; wait = worked.wait i; last = keeps i; latch = worked.latch i })

  pub left-after-request : s ≡ after_request w time f a d
  left-after-request = leaves ∙ ap₂ (left_with w time w.shared.inputs) marked left-session

-- ---- the answered request

module _ (w s : OutstationView) (q time : ℕ) (f : List ℕ) (r : RequestEffect) (b a₁ : List ℕ) (d : S.RequestEffect) (worked : EffectMeets r b a₁ d) (k : BufferView)
    (marked : k ≡ d.buffer) (x : SessionView) (m : LastRequestView) (leaves : s ≡ left_with w time w.shared.inputs k x)
    (holds : x ≡ record { restarted = r.restarted; wait = r.wait; last = m; latch = latch_of r.latch }) where
  silent-given : (function : ℕ) → eqb function 6 ≡ true → d.objects ≡ [] → m ≡ kept f []
      → AnsweredAs s (Ok Fs.Silent) r.operated b a₁ (request_step w q function time f d)
  unfolding request_step
  silent-given function e none keeps =
      rw e
      (record {
        state = left-after-request w s r b a₁ d worked k marked x time m f [] leaves holds keeps;
        answer = ap silent worked.operated.objects;
        size = refl;
        objects = worked.operated;
        lent = worked.lent ∙ ap (splice b 4) none ∙ splice-nil b 4;
      })

  module _ (a₂ : List ℕ) (put : a₂ ≡ splice a₁ 0 (response_of q r.con (indications_of k r.restarted) r.fault)) (room : r.size ≤ length b) where
    request-given : (function : ℕ) → eqb function 6 ≡ false → m ≡ kept f (take r.size a₂)
        → AnsweredAs s (Ok (Fs.Answer r.size)) r.operated b a₂ (request_step w q function time f d)
    unfolding request_step
    request-given function e keeps =
        let bytes : take r.size a₂ ≡ response_bytes q d = answer-is q r b a₁ a₂ d worked k marked put room in
        rw e
        (record {
          state = left-after-request w s r b a₁ d worked k marked x time m f (response_bytes q d) leaves holds (keeps ∙ ap (kept f) bytes);
          answer = ap₂ answers bytes worked.operated.objects;
          size = answer-size q r b a₁ a₂ d worked k marked put;
          objects = worked.operated;
          lent = answer-lent q r b a₁ a₂ d worked k marked put;
        })

    pub read-given : (none : ControlObjects) → Holding none [] → m ≡ kept f []
        → AnsweredAs s (Ok (Fs.Answer r.size)) none b a₂ (read_step w q time f d)
    unfolding read_step
    read-given none e keeps =
        record {
          state = left-after-request w s r b a₁ d worked k marked x time m f [] leaves holds keeps;
          answer = ap₂ answers (answer-is q r b a₁ a₂ d worked k marked put room) e.objects;
          size = answer-size q r b a₁ a₂ d worked k marked put;
          objects = e;
          lent = answer-lent q r b a₁ a₂ d worked k marked put;
        }

  pub request-any : (a₂ : List ℕ) (n : ℕ) (is : FragmentAnswer) (function : ℕ) → (function ≡ 6 → d.objects ≡ [])
      → a₂ ≡ cond (eqb function 6) a₁ (splice a₁ 0 (response_of q r.con (indications_of k r.restarted) r.fault))
      → n ≡ cond (eqb function 6) 0 r.size → r.size ≤ length b → is ≡ cond (eqb function 6) Fs.Silent (Fs.Answer n) → m ≡ kept f (take n a₂)
      → AnsweredAs s (Ok is) r.operated b a₂ (request_step w q function time f d)
  request-any a₂ n is function none put size room said keeps = go (eqb function 6) refl put size said
    where
      go : (e : Bool) → eqb function 6 ≡ e
          → a₂ ≡ cond e a₁ (splice a₁ 0 (response_of q r.con (indications_of k r.restarted) r.fault)) → n ≡ cond e 0 r.size
          → is ≡ cond e Fs.Silent (Fs.Answer n)
          → AnsweredAs s (Ok is) r.operated b a₂ (request_step w q function time f d)
      go true e p z t =
          subst (λ (x : FragmentAnswer). AnsweredAs s (Ok x) r.operated b a₂ (request_step w q function time f d)) (sym t)
          (subst (λ (x : List ℕ). AnsweredAs s (Ok Fs.Silent) r.operated b x (request_step w q function time f d)) (sym p)
          (silent-given function e (none (eqb-true function 6 e)) (keeps ∙ ap (λ (j : ℕ). kept f (take j a₂)) z)))
      go false e p z t =
          subst (λ (x : FragmentAnswer). AnsweredAs s (Ok x) r.operated b a₂ (request_step w q function time f d))
          (sym (t ∙ ap Fs.Answer z))
          (request-given a₂ p room function e (keeps ∙ ap (λ (j : ℕ). kept f (take j a₂)) z))

-- an answer that is kept, or none
pub kept-most : (e : Bool) (n size : ℕ) → n ≡ cond e 0 size → size ≤ 113 → n ≤ 113
kept-most true n size h m = omega (arith, h)
kept-most false n size h m = omega (arith, h, m)

-- ---- a request by its function

module _ (w : OutstationView) (q function time : ℕ) (f : List ℕ) (P : Result → Type 0) where
  pub by_read : eqb function 1 ≡ true → P (read_step w q time f (read_effect_by w q time (asked_of w.shared.inputs (objects_of f))))
      → P (request_by w q function time f)
  by_read e h = rw e h

  module _ (e : eqb function 1 ≡ false) where
    pub by-repeat : is_repeat w.master.session.last f ≡ true → P (repeat_step w function time) → P (request_by w q function time f)
    by-repeat t h = rw (e, t) h

    pub by-other : is_repeat w.master.session.last f ≡ false → P (request_step w q function time f (effect_by w q function time (objects_of f)))
        → P (request_by w q function time f)
    by-other t h = rw (e, t) h

-- the events that a READ leaves
pub read-buffer : (w : OutstationView) (q time : ℕ) (p : Parsed) → (read_effect_by w q time p).buffer ≡ buffer_after w.shared.inputs p w.master.buffer
read-buffer w q time (headers hs) = refl
read-buffer w q time (fault n) = refl

read-objects : (w : OutstationView) (q time : ℕ) (p : Parsed) → (read_effect_by w q time p).objects ≡ response_objects w.shared.inputs p w.master.buffer
read-objects w q time (headers hs) = refl
read-objects w q time (fault n) = refl

-- a READ's answer has at most 2,048 bytes
pub read-most : (w : OutstationView) (q time : ℕ) (o : List ℕ) → 4 + length (read_effect_by w q time (asked_of w.shared.inputs o)).objects ≤ fragment_max
read-most w q time o =
    let e = ap length (read-objects w q time (asked_of w.shared.inputs o)) in
    omega (arith, e, response-fits w.shared.inputs o w.master.buffer)

-- ---- a repeat

module _ (w s : OutstationView) (function time : ℕ) (none : ControlObjects) (b : List ℕ) (same : s ≡ at_time time w) (no : Holding none []) where
  repeat-silent : eqb function 6 ≡ true → AnsweredAs s (Ok Fs.Silent) none b b (repeat_step w function time)
  unfolding repeat_step
  repeat-silent e = rw e (record { state = same; answer = ap silent no.objects; size = refl; objects = no; lent = refl })

  repeat-given : (a : List ℕ) (n : ℕ) → eqb function 6 ≡ false → a ≡ splice b 0 (kept_answer w.master.session.last)
      → n ≡ length (kept_answer w.master.session.last) → n ≤ length b
      → AnsweredAs s (Ok (Fs.Answer n)) none b a (repeat_step w function time)
  unfolding repeat_step
  repeat-given a n e put size room =
      rw e
      (record {
        state = same;
        answer = ap₂ answers (answer-taken b a (kept_answer w.master.session.last) n put size room) no.objects;
        size = size;
        objects = no;
        lent = put;
      })

  pub repeat-any : (a : List ℕ) (n : ℕ) (is : FragmentAnswer) → a ≡ cond (eqb function 6) b (splice b 0 (kept_answer w.master.session.last))
      → n ≡ cond (eqb function 6) 0 (length (kept_answer w.master.session.last)) → n ≤ length b
      → is ≡ cond (eqb function 6) Fs.Silent (Fs.Answer n)
      → AnsweredAs s (Ok is) none b a (repeat_step w function time)
  repeat-any a n is put size room said = go (eqb function 6) refl put size said
    where
      go : (e : Bool) → eqb function 6 ≡ e → a ≡ cond e b (splice b 0 (kept_answer w.master.session.last))
          → n ≡ cond e 0 (length (kept_answer w.master.session.last)) → is ≡ cond e Fs.Silent (Fs.Answer n)
          → AnsweredAs s (Ok is) none b a (repeat_step w function time)
      go true e p z t =
          subst (λ (x : FragmentAnswer). AnsweredAs s (Ok x) none b a (repeat_step w function time)) (sym t)
          (subst (λ (x : List ℕ). AnsweredAs s (Ok Fs.Silent) none b x (repeat_step w function time)) (sym p)
          (repeat-silent e))
      go false e p z t =
          subst (λ (x : FragmentAnswer). AnsweredAs s (Ok x) none b a (repeat_step w function time)) (sym t)
          (repeat-given a n e p z room)
