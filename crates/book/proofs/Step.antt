-- One call: the outstation's step and the book's entry keep the outstation a view of the book, and the answer is what the book says.
-- Assumes nothing.
use Prim.Native.Nat.{ℕ, suc, ◌+◌, ◌≤◌, ◌<◌}
use mathlib.Core.Path.{◌≡◌, refl, sym, ap, ◌∙◌, subst}
use mathlib.Core.Logic.{◌↔◌}
use Rattle.std.specs.Prelude.{Some}
use mathlib.Core.Bool.{Bool, true, false, not, cond, ◌&&◌, ◌||◌}
use mathlib.Core.List.{List, [], ◌∷◌, ◌++◌, map, append-nil}
use native.Mathlib.Omega.{arith}
use native.Mathlib.Nat.{le_refl}
use lib.ListN.{length, length-append}
use lib.Seq.{drop-length}
use lib.Dec.{eqb, ltb}
use Rattle.laws.specs.Limits.{fragment_max, events_max}
use Rattle.laws.specs.Outcome.{Outcome, accepted, refused}
use Rattle.laws.specs.Lists.{count, is_nil, member, same}
use Rattle.application.specs.Fragment.{function_of, objects_of}
use Rattle.control.specs.declared.ControlObject.{ControlObject}
use Rattle.control.specs.Objects.{formed}
use Rattle.control.specs.Status.{Outputs, echo_with}
use Rattle.select_latch.specs.Select.{LatchView, no_select}
use Rattle.last_request.specs.Repeat.{LastRequestView, nothing, kept, is_repeat, kept_answer}
use Rattle.events.specs.declared.Event.{Event}
use Rattle.events.specs.Placing.{empty_space}
use Rattle.events.specs.BufferView.{pushed, newly, marked}
use Rattle.event_objects.specs.Events.{events_bytes}
use Rattle.static_objects.specs.Static.{static_bytes}
use Rattle.read_headers.specs.declared.Header.{Header}
use Rattle.outstation.specs.Setup.{Setup, outputs_set_up}
use Rattle.outstation.specs.declared.Reading.{Reading}
use Rattle.outstation.specs.declared.Awaited.{Awaited}
use Rattle.std.proofs.Common.{Option, Some, None}
use Rattle.outstation.specs.OutstationView.{OutstationView, with_master, restarted}
use Rattle.outstation.specs.Readings.{bad_time, ReadingEffect, apply_reading}
use Rattle.read.specs.Response.{classes_of, room_beside}
use Rattle.outstation.specs.Requests.{Ask, malformed, confirms, reads, misreads, asks, ask, is_confirmed}
use Rattle.outstation.specs.Step as S
use Rattle.outstation.specs.Step.{Call, reading, table, fragment, Answer, answers, silent, Result, RequestEffect, on_effect}
use Rattle.book.specs.Book as B
use Rattle.book.specs.Book.{Book, Row, Entry, BookAnswer, HistoryEntry, row_held, drop_since, picked, release}
use Rattle.book.specs.Demand3.{Pending, event_at, Response, Building, again, kept_by, AnswerAgrees}
use Rattle.laws.proofs.Choices.{by, both, split, is_nil-nil, nor-left}
use Rattle.book.proofs.Rows.{collect, length-collect, collect-snoc, collect-none, held_row, dropped_row, since-held, since-dropped}
use Rattle.book.proofs.Rows.{picks-below, carry-collect, carried-bytes, carried-events, some-carried, keep-collect}
use Rattle.book.proofs.Requests.{last_bytes, repeat-same, repeated, asks-inverse, reads-function, misreads-function, Ends, effect-ends}
use Rattle.book.proofs.Requests.{Bears, effect-bears, response-long, response-objects, response-bit}

-- ---- the outstation that a book stands for

-- what the book does not keep; shown: whether the awaited response showed IIN2.3
pub record Extra : Type 0 where
  pub arm_time : ℕ
  pub outputs : Outputs
  pub restarted : Bool
  pub last : LastRequestView
  pub latch : LatchView
  pub shown : Bool

abbrev pub wait_rows : B.BookWait → List ℕ
wait_rows B.idle = []
wait_rows (B.awaiting q t ws n k) = ws

abbrev pub wait_from : B.BookWait → ℕ
wait_from B.idle = 0
wait_from (B.awaiting q t ws n k) = n

abbrev pub wait_view : Bool → List Row → B.BookWait → Option Awaited
wait_view shown rows B.idle = None
wait_view shown rows (B.awaiting q t ws n k) = Some (record { sequence = record { 0 = q }; time = t; showed_overflow = shown; dropped_since = drop_since n rows })

abbrev pub view : Book → Extra → OutstationView
view b x =
    record {
      shared =
          record {
            arm_time = x.arm_time;
            confirm_time = b.shared.confirm_time;
            outputs = x.outputs;
            clock = b.shared.clock;
            inputs = b.shared.inputs;
          };
      master =
          record {
            buffer = record { held = collect (wait_rows b.master.wait) 0 b.master.rows; overflow = b.master.warning };
            session =
                record {
                  restarted = x.restarted;
                  wait = wait_view x.shown b.master.rows b.master.wait;
                  last = x.last;
                  latch = x.latch;
                };
          };
    }

-- the wait's numbers are rows of the book; a response that did not show IIN2.3 was built when there was no warning
pub record Inv (w : B.BookWait) (rows : List Row) (warning shown : Bool) : Type 0 where
  pub below : (j : ℕ) → member j (wait_rows w) ≡ true → j < length rows
  pub from : wait_from w ≤ length rows
  pub quiet : shown ≡ false → drop_since (wait_from w) rows ≡ false → warning ≡ false

-- what a repeat of the kept request would be answered, is its own answer
abbrev pub Stored : LastRequestView → Answer → Type 0
Stored nothing last = Unit {0}
Stored (kept f answer) last = eqb (function_of f) 1 ≡ false → again last ≡ cond (eqb (function_of f) 6) (silent []) (answers answer [])

-- and the book's last request is the one that is kept, with its answer
pub record Fits (b : Book) (x : Extra) (last : Answer) : Type 0 where
  pub inv : Inv b.master.wait b.master.rows b.master.warning x.shown
  pub request : last_bytes x.last ≡ b.master.last
  pub stored : Stored x.last last

pub record Sim (w : OutstationView) (b : Book) (last : Answer) : Type 0 where
  pub extra : Extra
  pub is : w ≡ view b extra
  pub fits : Fits b extra last

-- a step and an entry, h the history before the call and last the answer to the last request
pub record Match (h : List HistoryEntry) (last : Answer) (r : Result) (e : Entry) : Type 0 where
  pub sim : Sim r.state e.book (kept_by e.answer last r.answer)
  pub agrees : AnswerAgrees h last e.book.master.rows e.answer r.answer

-- ---- an event raised

wait-held : (shown : Bool) (rows : List Row) (w : B.BookWait) (e : Event) → wait_from w ≤ length rows
    → wait_view shown (rows ++ (held_row e ∷ [])) w ≡ wait_view shown rows w
wait-held shown rows B.idle e h = refl
wait-held shown rows (B.awaiting q t ws n k) e h = rw since-held

wait-dropped : (shown : Bool) (rows : List Row) (w : B.BookWait) (e : Event) → wait_from w ≤ length rows
    → wait_view shown (rows ++ (dropped_row e ∷ [])) w ≡ S.noted (wait_view shown rows w)
wait-dropped shown rows B.idle e h = refl
wait-dropped shown rows (B.awaiting q t ws n k) e h = rw since-dropped

module _ (w : B.BookWait) (rows : List Row) (warning shown : Bool) (i : Inv w rows warning shown) (e : Event) where
  fresh-row : member (length rows) (wait_rows w) ≡ false
  fresh-row = by (member (length rows) (wait_rows w)) (λ h. let z : ⊥ = omega (arith, i.below (length rows) h) in absurd z) (λ h. h)

  collect-held : collect (wait_rows w) 0 (rows ++ (held_row e ∷ [])) ≡ collect (wait_rows w) 0 rows ++ (newly e ∷ [])
  collect-held = let z : 0 + length rows ≡ length rows = omega arith in rw (collect-snoc, z, fresh-row)

  collect-dropped : collect (wait_rows w) 0 (rows ++ (dropped_row e ∷ [])) ≡ collect (wait_rows w) 0 rows
  collect-dropped = rw (collect-snoc, append-nil)

  inv-held : Inv w (rows ++ (held_row e ∷ [])) warning shown
  inv-held =
      record {
        below = λ j h. simp length-append (omega (arith, i.below j h));
        from = simp length-append (omega (arith, i.from));
        quiet = rw (since-held (wait_from w) rows e i.from) i.quiet;
      }

  inv-dropped : Inv w (rows ++ (dropped_row e ∷ [])) true shown
  inv-dropped =
      record {
        below = λ j h. simp length-append (omega (arith, i.below j h));
        from = simp length-append (omega (arith, i.from));
        quiet = λ a d. let z : true ≡ false = sym (since-dropped (wait_from w) rows e i.from) ∙ d in cc;
      }

raise-ok : (b : Book) (x : Extra) (last : Answer) (e : Event) → Fits b x last
    → Sim (with_master (S.raise e (view b x).master) (view b x)) (B.with_master (B.enter_event e b.master) b) last
unfolding S.raise pushed B.enter_event B.full
raise-ok b x last e i =
    let l : length (collect (wait_rows b.master.wait) 0 b.master.rows) ≡ count row_held b.master.rows = length-collect (wait_rows b.master.wait) 0 b.master.rows in
    by (ltb (count row_held b.master.rows) events_max)
    (λ t. rw (l, t) (record {
      extra = x;
      is = rw (collect-held b.master.wait b.master.rows b.master.warning x.shown i.inv e, wait-held x.shown b.master.rows b.master.wait e i.inv.from);
      fits = record { inv = inv-held b.master.wait b.master.rows b.master.warning x.shown i.inv e; request = i.request; stored = i.stored };
    }))
    (λ t. rw (l, t) (record {
      extra = x;
      is = rw (collect-dropped b.master.wait b.master.rows b.master.warning x.shown i.inv e, wait-dropped x.shown b.master.rows b.master.wait e i.inv.from);
      fits = record { inv = inv-dropped b.master.wait b.master.rows b.master.warning x.shown i.inv e; request = i.request; stored = i.stored };
    }))

-- ---- readings

-- two terms that branch on one reading
over_effect {ℓ} : {A C : Type 0} (R : A → C → Type ℓ) (v : Outcome ReadingEffect) {x : ReadingEffect → A} {y : ℕ → A} {x' : ReadingEffect → C} {y' : ℕ → C}
    → ((h : ReadingEffect) → R (x h) (x' h)) → ((n : ℕ) → R (y n) (y' n)) → R (on_effect v x y) (on_effect v x' y')
over_effect R (accepted h) p q = p h
over_effect R (refused n) p q = q n

taken-ok : (b : Book) (x : Extra) (last : Answer) (r : Reading) (a : ReadingEffect) → Fits b x last → Sim (S.taken (view b x) r a) (B.enter_reading b r a) last
unfolding S.taken_with B.enter_reading
taken-ok b x last r a i =
    let b₁ = B.with_shared (B.with_inputs a.inputs (B.with_clock r.time b.shared)) b in
    both (λ m n. Sim (with_master m (view b₁ x)) (B.with_master n b₁) last) a.raised
    (λ _. raise-ok b₁ x last a.event (record { inv = i.inv; request = i.request; stored = i.stored }))
    (λ _. record { extra = x; is = refl; fits = record { inv = i.inv; request = i.request; stored = i.stored } })

module _ (h : List HistoryEntry) (last : Answer) where
  reading-ok : (r : Reading) (b : Book) (x : Extra) → Fits b x last → Match h last (S.reading_step r (view b x)) (B.reading_entry r b)
  unfolding S.reading_step B.reading_entry
  reading-ok r b x i =
      over_effect (Match h last) (apply_reading b.shared.clock b.shared.inputs r)
      (λ a. record { sim = taken-ok b x last r a i; agrees = refl })
      (λ n. record { sim = record { extra = x; is = refl; fits = i }; agrees = refl })

  table-ok : (rs : List Reading) (k : ℕ) (ns : List HistoryEntry) (b : Book) (x : Extra) → Fits b x last
      → Match h last (S.table_from rs k (view b x)) (B.table_from rs k ns b)
  unfolding S.table_from B.table_from
  table-ok [] k ns b x i = record { sim = record { extra = x; is = refl; fits = i }; agrees = refl }
  table-ok (r ∷ rs) k ns b x i =
      over_effect (Match h last) (apply_reading b.shared.clock b.shared.inputs r)
      (λ a. let m = taken-ok b x last r a i in
      rw m.is (table-ok rs (suc k) (B.reading_entries b.master a ++ ns) (B.enter_reading b r a) m.extra m.fits))
      (λ n. record { sim = record { extra = x; is = refl; fits = i }; agrees = refl })

  refused-ok : (n : ℕ) (b : Book) (x : Extra) → Fits b x last → Match h last (S.refusal n (view b x)) (B.refused_entry n b)
  refused-ok n b x i = record { sim = record { extra = x; is = refl; fits = i }; agrees = refl }

-- ---- requests

idle-inv : (rows : List Row) (warning : Bool) → Inv B.idle rows warning true
idle-inv rows warning = record { below = λ j h. let z : ◌≡◌ {A = ℕ} 0 1 = cc in omega arith; from = omega arith; quiet = λ h d. cc }

-- the book that a new request leaves
abbrev after_request : Book → ℕ → List ℕ → B.BookWait → ℕ → Book
after_request b time f wait built = B.at_time time (B.with_master (B.with_wait wait (B.with_request f built b.master)) b)

-- the outstation that it leaves, by what it does to the held events and the wait, and its answer a
after-request-ok : (b : Book) (x : Extra) (time : ℕ) (f answer : List ℕ) (a : Answer) (d : RequestEffect) (wait : B.BookWait) (built : ℕ) (shown : Bool)
    → d.buffer ≡ record { held = collect (wait_rows wait) 0 b.master.rows; overflow = b.master.warning } → d.wait ≡ wait_view shown b.master.rows wait
    → Inv wait b.master.rows b.master.warning shown → Stored (kept f answer) a
    → Sim (S.after_request (view b x) time f answer d) (after_request b time f wait built) a
after-request-ok b x time f answer a d wait built shown queued waited inv stored =
    record {
      extra = record { arm_time = x.arm_time; outputs = x.outputs; restarted = d.restarted; last = kept f answer; latch = d.latch; shown = shown };
      is = rw (queued, waited);
      fits = record { inv = inv; request = refl; stored = stored };
    }

-- a READ is never repeated
read-stored : (f answer : List ℕ) (a : Answer) → eqb (function_of f) 1 ≡ true → Stored (kept f answer) a
read-stored f answer a t = λ e. absurd (let g : true ≡ false = sym t ∙ e in let z : ◌≡◌ {A = ℕ} 0 1 = cc in omega arith)

-- the response's IIN2.3 is the overflow
response-of : (h : List HistoryEntry) (q : ℕ) (d : RequestEffect) (operated : List ControlObject) → ((d.buffer.overflow ≡ true) ↔ Pending h)
    → Response h (answers (S.response_bytes q d) operated)
response-of h q d operated p =
    record {
      bytes = S.response_bytes q d;
      operated = operated;
      is = refl;
      overflow = rw (response-bit q d.con (S.indications d) d.fault d.objects) p;
    }

building-of : (h : List HistoryEntry) (q : ℕ) (d : RequestEffect) (operated : List ControlObject) (o : List ℕ) → d.objects ≡ o
    → ((d.buffer.overflow ≡ true) ↔ Pending h) → Building h (answers (S.response_bytes q d) operated) o
unfolding response-of
building-of h q d operated o e p =
    record {
      response = response-of h q d operated p;
      long = response-long q d.con (S.indications d) d.fault d.objects ∙ ap (λ (o : List ℕ). 4 + length o) e;
      objects = response-objects q d.con (S.indications d) d.fault d.objects ∙ e;
    }

-- its objects are those that the book says
told_of : (h : List HistoryEntry) (last : Answer) (rows : List Row) (answer : BookAnswer) (q : ℕ) (d : RequestEffect) (operated : List ControlObject) → Bears answer d.objects
    → ((d.buffer.overflow ≡ true) ↔ Pending h)
    → (kept_by answer last (answers (S.response_bytes q d) operated) ≡ answers (S.response_bytes q d) operated)
    × AnswerAgrees h last rows answer (answers (S.response_bytes q d) operated)
told_of h last rows (B.takes taken refusal) q d operated e p = absurd e
told_of h last rows (B.refuses n) q d operated e p = absurd e
told_of h last rows B.accepts q d operated e p = absurd e
told_of h last rows (B.carries ws static) q d operated e p = absurd e
told_of h last rows B.plain q d operated e p = (refl, building-of h q d operated [] e p)
told_of h last rows (B.echoes o) q d operated e p = (
  refl,
  record { statuses = e.statuses; each = e.each; building = building-of h q d operated (echo_with (formed o) e.statuses o) e.is p },
)
told_of h last rows B.unanswered q d operated e p = absurd e
told_of h last rows B.repeats q d operated e p = absurd e

-- a READ: the held events and the wait that it leaves are those of the rows picked
module _ (q time : ℕ) (hs : List Header) (b : Book) (x : Extra) where
  abbrev effect : RequestEffect
  effect = S.read_effect (view b x) q time hs

  abbrev new_wait : B.BookWait
  new_wait = B.read_wait b q time hs

  unmarked : map (marked false) (collect (wait_rows b.master.wait) 0 b.master.rows) ≡ collect [] 0 b.master.rows
  unmarked = collect-none (wait_rows b.master.wait) 0 b.master.rows

  read-objects : effect.objects ≡ events_bytes (map (event_at b.master.rows) (picked b hs)) ++ static_bytes b.shared.inputs hs
  read-objects = rw (unmarked, carried-bytes, carried-events (classes_of hs) (empty_space (room_beside b.shared.inputs hs)) [] 0 b.master.rows refl)

  read-buffer : effect.buffer ≡ record { held = collect (wait_rows new_wait) 0 b.master.rows; overflow = b.master.warning }
  read-buffer =
      rw (unmarked, carry-collect (classes_of hs) (empty_space (room_beside b.shared.inputs hs)) 0 b.master.rows)
      (by (not (is_nil (picked b hs)) || b.master.warning)
      (λ c. rw c)
      (λ c. rw (c, is_nil-nil (picked b hs) (nor-left (is_nil (picked b hs)) b.master.warning c))))

  read-wait : effect.wait ≡ wait_view b.master.warning b.master.rows new_wait
  read-wait =
      rw (unmarked, some-carried (classes_of hs) (empty_space (room_beside b.shared.inputs hs)) b.master.rows)
      (by (not (is_nil (picked b hs)) || b.master.warning) (λ c. rw (c, drop-length)) (λ c. rw c))

  read-inv : Inv new_wait b.master.rows b.master.warning b.master.warning
  read-inv =
      split (λ w. Inv w b.master.rows b.master.warning b.master.warning) (not (is_nil (picked b hs)) || b.master.warning)
      (λ _. record {
        below = λ j h. omega (arith, picks-below (classes_of hs) (empty_space (room_beside b.shared.inputs hs)) j 0 b.master.rows h);
        from = le_refl _;
        quiet = λ h d. h;
      })
      (λ _. record { below = (idle-inv b.master.rows b.master.warning).below; from = omega arith; quiet = λ h d. h })

  read_ok : (h : List HistoryEntry) (last : Answer) (f : List ℕ) → eqb (function_of f) 1 ≡ true → ((b.master.warning ≡ true) ↔ Pending h)
      → Match h last (S.read_step (view b x) q time f effect) (B.read_entry b q time f hs)
  unfolding S.read_step B.read_entry
  read_ok h last f t p =
      let a = answers (S.response_bytes q effect) [] in
      record {
        sim = after-request-ok b x time f [] a effect new_wait (suc b.master.built) b.master.warning read-buffer read-wait read-inv (read-stored f [] a t);
        agrees = building-of h q effect [] (events_bytes (map (event_at b.master.rows) (picked b hs)) ++ static_bytes b.shared.inputs hs) read-objects p;
      }

-- any other request that is no repeat; d is what it does
module _ (h : List HistoryEntry) (last : Answer) (q time : ℕ) (f : List ℕ) (b : Book) (x : Extra) (d : RequestEffect) (e : Ends (view b x).master.buffer d)
    (p : (b.master.warning ≡ true) ↔ Pending h) where
  other-buffer : d.buffer ≡ record { held = collect [] 0 b.master.rows; overflow = b.master.warning }
  other-buffer = e.buffer ∙ rw (collect-none (wait_rows b.master.wait) 0 b.master.rows)

  other-sim : (answer : List ℕ) (a : Answer) (built : ℕ) → Stored (kept f answer) a
      → Sim (S.after_request (view b x) time f answer d) (after_request b time f B.idle built) a
  other-sim answer a built stored =
      after-request-ok b x time f answer a d B.idle built true other-buffer e.wait (idle-inv b.master.rows b.master.warning) stored

  misread-ok : d.objects ≡ [] → eqb (function_of f) 1 ≡ true → Match h last (S.read_step (view b x) q time f d) (B.other_entry b true B.plain time f)
  unfolding S.read_step B.other_entry
  misread-ok o t =
      let a = answers (S.response_bytes q d) [] in
      record { sim = other-sim [] a (suc b.master.built) (read-stored f [] a t); agrees = building-of h q d [] [] o (rw e.buffer p) }

  -- function 6, and all others
  silent-ok : eqb (function_of f) 6 ≡ true
      → Match h last (record { state = S.after_request (view b x) time f [] d; answer = silent d.operated }) (B.other_entry b false B.unanswered time f)
  unfolding B.other_entry
  silent-ok t = record { sim = other-sim [] (silent d.operated) b.master.built (λ r. rw t); agrees = record { operated = d.operated; is = refl } }

  answered-ok : (answer : BookAnswer) → Bears answer d.objects → eqb (function_of f) 6 ≡ false
      → Match h last (record { state = S.after_request (view b x) time f (S.response_bytes q d) d; answer = answers (S.response_bytes q d) d.operated })
      (B.other_entry b true answer time f)
  unfolding B.other_entry
  answered-ok answer bears t =
      let (same, agrees) = told_of h last b.master.rows answer q d d.operated bears (rw e.buffer p) in
      record {
        sim = rw same (other-sim (S.response_bytes q d) (answers (S.response_bytes q d) d.operated) (suc b.master.built) (λ r. rw t));
        agrees = agrees;
      }

  request-ok : (function : ℕ) → function_of f ≡ function → (eqb function 6 ≡ false → Bears (B.book_answer_of function (objects_of f)) d.objects)
      → Match h last (S.request_step (view b x) q function time f d)
      (B.other_entry b (not (eqb function 6)) (B.book_answer_of function (objects_of f)) time f)
  unfolding S.request_step B.book_answer_of
  request-ok function is bears =
      by (eqb function 6)
      (λ t. rw t (silent-ok (rw is t)))
      (λ t. rw t (answered-ok (cond (member function (3 ∷ 4 ∷ 5 ∷ [])) (B.echoes (objects_of f)) B.plain) (rw t at (bears t)) (rw is t)))

-- a repeat moves the clock, and has the same answer again
repeat-ok : (h : List HistoryEntry) (last : Answer) (function time : ℕ) (f : List ℕ) (b : Book) (x : Extra) → Fits b x last
    → function_of f ≡ function → eqb function 1 ≡ false → x.last ≡ kept f (kept_answer x.last)
    → Match h last (S.repeat_step (view b x) function time) (B.repeat_entry b time)
unfolding S.repeat_step B.repeat_entry
repeat-ok h last function time f b x i is other was =
    let s : Stored (kept f (kept_answer x.last)) last = subst (λ m. Stored m last) was i.stored in
    record {
      sim = record { extra = x; is = refl; fits = record { inv = i.inv; request = i.request; stored = i.stored } };
      agrees = sym (rw is at (s (rw is other)));
    }

-- ---- CONFIRM

clear-eq : (shown d w : Bool) → (shown ≡ false → d ≡ false → w ≡ false) → cond (shown && not d) false w ≡ cond d w false
clear-eq true true w h = refl
clear-eq true false w h = refl
clear-eq false true w h = refl
clear-eq false false w h = h refl refl

module _ (h : List HistoryEntry) (last : Answer) where
  confirmed-ok : (time q t : ℕ) (ws : List ℕ) (n k : ℕ) (b : Book) (x : Extra) → b.master.wait ≡ B.awaiting q t ws n k → Fits b x last
      → Match h last (S.confirmed_step (view b x) time x.shown (drop_since n b.master.rows)) (B.confirmed_entry b time ws n k)
  unfolding S.confirmed_step B.confirmed_entry
  confirmed-ok time q t ws n k b x e i =
      record {
        sim =
            record {
              extra = record { arm_time = x.arm_time; outputs = x.outputs; restarted = x.restarted; last = x.last; latch = x.latch; shown = true };
              is = rw (e, keep-collect ws 0 b.master.rows, clear-eq x.shown (drop_since n b.master.rows) b.master.warning (rw e at i.inv.quiet));
              fits =
                  record {
                    inv = idle-inv (release ws 0 b.master.rows) (cond (drop_since n b.master.rows) b.master.warning false);
                    request = i.request;
                    stored = i.stored;
                  };
            };
        agrees = refl;
      }

  confirm-ok : (q : ℕ) (uns : Bool) (time : ℕ) (b : Book) (x : Extra) (w : B.BookWait) → b.master.wait ≡ w → Fits b x last
      → Match h last (S.confirm_step (view b x) (wait_view x.shown b.master.rows w) q uns time) (B.confirm_entry b w q uns time)
  unfolding S.confirm_step B.confirm_entry
  confirm-ok q uns time b x B.idle e i = refused-ok h last 32 b x i
  confirm-ok q uns time b x (B.awaiting q₁ t₁ ws n k) e i =
      both (Match h last) (is_confirmed b.shared.confirm_time q uns time q₁ t₁)
      (λ _. confirmed-ok time q₁ t₁ ws n k b x e i)
      (λ _. refused-ok h last 32 b x i)

-- ---- fragments

module _ (h : List HistoryEntry) (last : Answer) (b : Book) (x : Extra) (i : Fits b x last) (p : (b.master.warning ≡ true) ↔ Pending h) where
  ask-ok : (a : Ask) (time : ℕ) (f : List ℕ) → ask b.shared.inputs f ≡ a → Match h last (S.on_ask a (view b x) time f) (B.ask_entry a b time f)
  ask-ok malformed time f e = refused-ok h last 31 b x i
  ask-ok (confirms q uns) time f e = confirm-ok h last q uns time b x b.master.wait refl i
  ask-ok (reads q hs) time f e = read_ok q time hs b x h last f (reads-function b.shared.inputs f q hs e) p
  ask-ok (misreads q n) time f e =
      misread-ok h last q time f b x (S.plain_effect (view b x) (Some n) x.restarted) (record { buffer = refl; wait = refl }) p refl
      (misreads-function b.shared.inputs f q n e)
  ask-ok (asks q function) time f e =
      let a = asks-inverse b.shared.inputs f q function e in
      let s : is_repeat x.last f ≡ same f b.master.last = rw (← i.request) (repeat-same x.last f (rw a.is a.other) a.long) in
      let d = S.effect_by (view b x) q function time (objects_of f) in
      rw s
      (both (Match h last) (same f b.master.last)
      (λ t. repeat-ok h last function time f b x i a.is a.other (repeated x.last f a.long (rw i.request t)))
      (λ _. request-ok h last q time f b x d (effect-ends (view b x) q function time (objects_of f)) p function a.is
      (effect-bears (view b x) q function time (objects_of f))))

  fragment-ok : (time : ℕ) (f : List ℕ) (room : ℕ) → Match h last (S.fragment_step time f room (view b x)) (B.fragment_entry time f room b)
  unfolding S.fragment_step B.fragment_entry
  fragment-ok time f room =
      both (Match h last) (bad_time b.shared.clock time)
      (λ _. refused-ok h last 1 b x i)
      (λ _. both (Match h last) (ltb room fragment_max) (λ _. refused-ok h last 33 b x i) (λ _. ask-ok (ask b.shared.inputs f) time f refl))

  step-view : (c : Call) → Match h last (S.step c (view b x)) (B.enter c b)
  unfolding S.step B.enter
  step-view (reading r) = reading-ok h last r b x i
  step-view (table rs) = table-ok h last rs 0 [] b x i
  step-view (fragment time f room) = fragment-ok time f room

-- one call, from any outstation that is a view of the book
pub step_ok : (h : List HistoryEntry) (last : Answer) (c : Call) (w : OutstationView) (b : Book) → ((b.master.warning ≡ true) ↔ Pending h) → Sim w b last
    → Match h last (S.step c w) (B.enter c b)
step_ok h last c w b p m = rw m.is (step-view h last b m.extra m.fits p c)

pub start-ok : (u : Setup) → Sim (restarted u) (B.book_of u) (silent [])
unfolding restarted B.book_of
start-ok u =
    record {
      extra =
          record {
            arm_time = u.arm_time;
            outputs = outputs_set_up u;
            restarted = true;
            last = nothing;
            latch = no_select;
            shown = true;
          };
      is = refl;
      fits = record { inv = idle-inv [] false; request = refl; stored = tt };
    }
