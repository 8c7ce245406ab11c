-- A run of the outstation, worked out by computation: 257 events of one binary, the last of them dropped, in a table that is stopped;
-- READ, a late CONFIRM, READ again and its CONFIRM; WRITE and its repeat.
-- Assumes nothing.
use Prim.Native.Nat.{ℕ, zero, suc, ◌+◌, ◌*◌, ◌-◌, ◌^◌, ◌≤◌}
use mathlib.Core.Path.{◌≡◌, refl, sym, ap, ◌∙◌}
use mathlib.Core.Bool.{Bool, true, false, not, or-true}
use mathlib.Core.List.{List, [], ◌∷◌, ◌++◌, map, append-nil}
use native.Mathlib.Omega.{arith}
use lib.ListN.{length}
use borrow.Author.Tests.{le-leb}
use Rattle.laws.specs.Limits.{fragment_max, events_max}
use Rattle.read.specs.Response.{response_objects_max}
use Rattle.laws.specs.Lists.{filter, some, same}
use Rattle.points.specs.Reading as P
use Rattle.points.specs.PointsView.{PointsView}
use Rattle.events.specs.declared.Classes.{Classes}
use Rattle.events.specs.declared.Held.{Held}
use Rattle.events.specs.declared.Shown.TheVariants.{State}
use Rattle.events.specs.declared.EventKind.TheVariants as EventKind
use Rattle.events.specs.Placing as E
use Rattle.std.proofs.Common.{Option, Some, None}
use Rattle.events.specs.BufferView as K
use Rattle.application.specs.Response as I
use Rattle.std.specs.Prelude.{None}
use Rattle.read_headers.specs.Headers.{events_of}
use Rattle.read_headers.specs.Parse as A
use Rattle.objects.specs.Runs.{encoded, runs, all_bytes}
use Rattle.event_objects.specs.Events.{events_bytes, carried_bytes}
use Rattle.static_objects.specs.Static.{static_bytes, range_bytes, point_objects}
use Rattle.control.specs.Objects.{answer_max}
use Rattle.select_latch.specs.Select.{no_select}
use Rattle.last_request.specs.Repeat.{LastRequestView, nothing, kept, kept_answer, is_repeat}
use Rattle.words.specs.Records.{tab, chunk, records}
use Rattle.point_store.specs.PointWords.{binary_of, binaries_in}
use Rattle.outstation.specs.declared.Reading.{Reading}
use Rattle.outstation.specs.declared.Measured.TheVariants as Ms
use Rattle.outstation.specs.declared.Awaited.{Awaited}
use Rattle.outstation.specs.Setup as U
use Rattle.outstation.specs.OutstationView.{OutstationView, SessionView, restarted}
use Rattle.outstation.specs.Lent.{CountsWithin}
use Rattle.outstation.specs.Readings as R
use Rattle.outstation.specs.Requests as Q
use Rattle.outstation.specs.Step as S
use Rattle.outstation.specs.Step.{Call, table, fragment, Answer, took, answers, accepts, refuses, step}
use Rattle.outstation.specs.CallContracts.{StepHolds}
use Rattle.book.proofs.Rows.{carried-bytes}
use Rattle.book.proofs.Example.{one_binary}
use Rattle.book.proofs.LentMemory.{outstation_for, Coded, none-coded, event-coded, Fits, view-for}

-- ---- calls of the outstation for a state

-- the call c of the outstation for w, which leaves one whose counts do not pass their arrays: so what is padded has the array's length
pub did-for : (w w₁ : OutstationView) (c : Call) (a : Answer) → Fits w → Fits w₁ → CountsWithin (outstation_for w₁) → step c w ≡ record { state = w₁; answer = a }
    → StepHolds (outstation_for w) c a (outstation_for w₁)
did-for w w₁ c a f f₁ n e = record { result = rw (view-for w f, view-for w₁ f₁) (sym e); counted = λ _. n }

-- ---- the calls

-- binary 0 is so at this time, with these flags
abbrev pub at : (time : ℕ) → Bool → (flags : ℕ) → Reading
at time on flags = record { time = time; point = 0; measured = Ms.State on; flags = flags }

-- n readings, one each millisecond, each the opposite of the one before
abbrev pub alternating : (n time : ℕ) → Bool → List Reading
alternating zero time on = []
alternating (suc n) time on = at time on 1 ∷ alternating n (suc time) (not on)

-- off, 257 changes, a refused reading, and one more, which is not taken
abbrev pub readings : List Reading
readings = at 0 false 1 ∷ alternating 257 1 true ++ (at 1000 false 32 ∷ at 1001 false 1 ∷ [])

-- READ of class 1, and CONFIRM, with this control byte; WRITE, which clears restart
abbrev pub read : ℕ → List ℕ
read control = control ∷ 0x01 ∷ 0x3C ∷ 0x02 ∷ 0x06 ∷ []

abbrev pub confirm : ℕ → List ℕ
confirm control = control ∷ 0x00 ∷ []

abbrev pub write : List ℕ
write = 0xC3 ∷ 0x02 ∷ 0x50 ∷ 0x01 ∷ 0x00 ∷ 0x07 ∷ 0x07 ∷ 0x00 ∷ []

-- its answer: IIN1.1, events of class 1 are left; IIN2.3 is clear
abbrev pub written : List ℕ
written = 0xC3 ∷ 0x81 ∷ 0x02 ∷ 0x00 ∷ []

-- the first CONFIRM comes 5,001 after its READ, the second 1,000
abbrev pub calls : List Call
calls =
    table readings
    ∷ fragment 2000 (read 0xC1) fragment_max
    ∷ fragment 7001 (confirm 0xC1) fragment_max
    ∷ fragment 8000 (read 0xC2) fragment_max
    ∷ fragment 9000 (confirm 0xC2) fragment_max
    ∷ fragment 9500 write fragment_max
    ∷ fragment 9600 write fragment_max
    ∷ []

-- ---- the states that they leave

-- n held events, one each millisecond
abbrev pub events : (carried : Bool) (n time : ℕ) → Bool → List Held
events carried zero time on = []
events carried (suc n) time on =
    record { event = record { point = 0; shown = State on; flags = 1; time = time; class = 1 }; carried = carried } ∷ events carried n (suc time) (not on)

-- the 256, of which a response has room for 226
abbrev pub newest : List Held
newest = events false 30 227 true

abbrev pub all256 : (carried : Bool) → List Held
all256 carried = events carried 226 1 true ++ newest

-- behind the table, at this time
abbrev pub state_at : (clock : ℕ) → List Held → (overflow : Bool) → SessionView → OutstationView
state_at clock held overflow session =
    record {
      shared =
          record {
            arm_time = 5000;
            confirm_time = 5000;
            outputs = record { relays = 16; analog = [] };
            clock = clock;
            inputs = record { binaries = record { class = 1; seen = true; state = true; flags = 1; reported_flags = 1 } ∷ []; analogs = [] };
          };
      master = record { buffer = record { held = held; overflow = overflow }; session = session };
    }

abbrev pub session_with : (restarted : Bool) → Option Awaited → LastRequestView → SessionView
session_with restarted wait last = record { restarted = restarted; wait = wait; last = last; latch = no_select }

-- a response with this sequence was built at this time; it showed IIN2.3, and nothing was dropped since
abbrev pub awaits : ℕ → ℕ → Option Awaited
awaits q time = Some (S.newly_sent (record { 0 = q }) time true)

abbrev bytes_of : LastRequestView → List ℕ
bytes_of nothing = []
bytes_of (kept f a) = f

abbrev pub w₁ : OutstationView
w₁ = state_at 257 (all256 false) true (session_with true None nothing)

abbrev pub w₂ : OutstationView
w₂ = state_at 2000 (all256 true) true (session_with true (awaits 1 2000) (kept (read 0xC1) []))

abbrev pub w₄ : OutstationView
w₄ = state_at 8000 (all256 true) true (session_with true (awaits 2 8000) (kept (read 0xC2) []))

abbrev pub w₅ : OutstationView
w₅ = state_at 9000 newest false (session_with true None (kept (read 0xC2) []))

abbrev pub w₆ : OutstationView
w₆ = state_at 9500 newest false (session_with false None (kept write written))

abbrev pub w₇ : OutstationView
w₇ = state_at 9600 newest false (session_with false None (kept write written))

-- no count passes its array, by the numbers of the events and of the kept bytes
pub counted-at : (clock : ℕ) (held : List Held) (overflow restarted : Bool) (wait : Option Awaited) (m : LastRequestView) → length held ≤ events_max
    → length (bytes_of m) ≤ fragment_max → length (kept_answer m) ≤ answer_max
    → CountsWithin (outstation_for (state_at clock held overflow (session_with restarted wait m)))
counted-at clock held overflow restarted wait nothing e f a =
    record { binaries = omega arith; analogs = omega arith; events = e; request = omega arith; answer = omega arith; objects = omega arith; outputs = omega arith }
counted-at clock held overflow restarted wait (kept g b) e f a =
    record { binaries = omega arith; analogs = omega arith; events = e; request = f; answer = a; objects = omega arith; outputs = omega arith }

-- each of these states has its head and memory
coded-events : (carried : Bool) (n time : ℕ) (on : Bool) (l : List Held) → time + n ≤ 2 ^ 48 → Coded l → Coded (events carried n time on ++ l)
coded-events carried zero time on l h c = c
coded-events carried (suc n) time on l h c =
    event-coded carried on time (events carried n (suc time) (not on) ++ l) (omega (arith, h)) (coded-events carried n (suc time) (not on) l (omega (arith, h)) c)

pub coded-newest : Coded newest
coded-newest = rw (← (append-nil newest)) (coded-events false 30 227 true [] (omega arith) none-coded)

pub coded-256 : (carried : Bool) → Coded (all256 carried)
coded-256 carried = coded-events carried 226 1 true newest (omega arith) coded-newest

pub fits-at : (clock : ℕ) (held : List Held) (overflow restarted : Bool) (wait : Option Awaited) (m : LastRequestView) → length held ≤ events_max → Coded held
    → Fits (state_at clock held overflow (session_with restarted wait m))
unfolding binaries_in records tab chunk binary_of
fits-at clock held overflow restarted wait m few coded = record { binaries = refl; analogs = refl; outputs = refl; events = coded; few = few; latch = refl }

pub fits-restarted : Fits (restarted one_binary)
unfolding restarted U.binary_classes U.analog_setups U.analog_outputs binaries_in records tab chunk binary_of
fits-restarted = record { binaries = refl; analogs = refl; outputs = refl; events = none-coded; few = omega arith; latch = refl }

-- ---- each step

pub by-table : step (table readings) (restarted one_binary) ≡ record { state = w₁; answer = took 258 4 }
unfolding restarted U.binary_classes U.analog_setups U.analog_outputs S.step S.table_from S.taken_with S.raise R.apply_reading R.bad_time P.read_binary P.is_reported P.is_raised K.pushed
by-table = refl

abbrev pub class1 : Classes
class1 = record { one = true; two = false; three = false }

-- a new request takes the marks away
unmarked : (c : Bool) (n t : ℕ) (on : Bool) (l : List Held) → map (K.marked false) (events c n t on ++ l) ≡ events false n t on ++ map (K.marked false) l
unmarked c zero t on l = refl
unmarked c (suc n) t on l = rw (unmarked c n (suc t) (not on) l)

-- while there is room, each costs 9 bytes, and the first of them 5 more
more-fit : (n r t : ℕ) (on : Bool) (l : List Held)
    → K.carry class1 (record { left = n * 9 + r; kind = Some EventKind.Binary }) (events false n t on ++ l)
    ≡ events true n t on ++ K.carry class1 (record { left = r; kind = Some EventKind.Binary }) l
unfolding K.carry E.fits E.space_after E.cost_of
more-fit zero r t on l = let e : 0 * 9 + r ≡ r = omega arith in rw e
more-fit (suc n) r t on l =
    let e : suc n * 9 + r - 9 ≡ n * 9 + r = omega arith in
    rw (le-leb 9 (suc n * 9 + r) (omega arith), e, more-fit n r (suc t) (not on) l)

first-fit : (n r t : ℕ) (on : Bool) (l : List Held)
    → K.carry class1 (E.empty_space (n * 9 + r + 14)) (events false (suc n) t on ++ l)
    ≡ events true (suc n) t on ++ K.carry class1 (record { left = r; kind = Some EventKind.Binary }) l
unfolding K.carry E.fits E.space_after E.cost_of
first-fit n r t on l =
    let e : n * 9 + r + 14 - 14 ≡ n * 9 + r = omega arith in
    rw (le-leb 14 (n * 9 + r + 14) (omega arith), e, more-fit n r (suc t) (not on) l)

none-fits : (n t : ℕ) (on : Bool) → K.carry class1 (record { left = 5; kind = Some EventKind.Binary }) (events false (suc n) t on) ≡ events false (suc n) t on
unfolding K.carry E.fits E.space_after E.cost_of
none-fits n t on = refl

marks : K.carry class1 (E.empty_space response_objects_max) (all256 false) ≡ all256 true
marks = first-fit 225 5 1 true newest ∙ ap (λ (l : List Held). events true 226 1 true ++ l) (none-fits 29 227 true)

-- a response carries the marked ones, and a CONFIRM leaves the others
carried-all : (n t : ℕ) (on : Bool) (l : List Held) → filter K.is_carried (events true n t on ++ l) ≡ events true n t on ++ filter K.is_carried l
unfolding filter
carried-all zero t on l = refl
carried-all (suc n) t on l = rw (carried-all n (suc t) (not on) l)

carried_none : (n t : ℕ) (on : Bool) → filter K.is_carried (events false n t on) ≡ []
unfolding filter
carried_none zero t on = refl
carried_none (suc n) t on = carried_none n (suc t) (not on)

waits-none : (n t : ℕ) (on : Bool) (l : List Held) → filter K.not_carried (events true n t on ++ l) ≡ filter K.not_carried l
unfolding filter
waits-none zero t on l = refl
waits-none (suc n) t on l = waits-none n (suc t) (not on) l

waits-all : (n t : ℕ) (on : Bool) → filter K.not_carried (events false n t on) ≡ events false n t on
unfolding filter
waits-all zero t on = refl
waits-all (suc n) t on = rw (waits-all n (suc t) (not on))

unmarked-all : (c : Bool) → map (K.marked false) (all256 c) ≡ all256 false
unmarked-all c = unmarked c 226 1 true newest

carried-226 : filter K.is_carried (all256 true) ≡ events true 226 1 true
carried-226 =
    carried-all 226 1 true newest
    ∙ ap (λ (l : List Held). events true 226 1 true ++ l) (carried_none 30 227 true)
    ∙ append-nil (events true 226 1 true)

waiting-30 : filter K.not_carried (all256 true) ≡ newest
waiting-30 = waits-none 226 1 true newest ∙ waits-all 30 227 true

-- ---- READ: IIN1.7, restarted; IIN1.1, events of class 1 are left; IIN2.3, events dropped

abbrev pub read_answer : (control : ℕ) → Answer
read_answer control = answers (control ∷ 0x81 ∷ 0x82 ∷ 0x08 ∷ events_bytes (map (λ (h : Held). h.event) (events true 226 1 true))) []

-- of any state behind the table, by the events that are marked
module _ (clock time q : ℕ) (f : List ℕ) (held after : List Held) (x : SessionView) where
  read_at : R.bad_time clock time ≡ false → Q.ask (state_at clock held true x).shared.inputs f ≡ Q.reads q (events_of 1 ∷ [])
      → K.carry class1 (E.empty_space response_objects_max) (map (K.marked false) held) ≡ after
      → step (fragment time f fragment_max) (state_at clock held true x)
      ≡ record {
        state = state_at time after true (session_with x.restarted (awaits q time) (kept f []));
        answer = answers (I.response_of q true (S.indications_of (record { held = after; overflow = true }) x.restarted) None ++ (carried_bytes after ++ [])) [];
      }
  unfolding S.step S.fragment_step S.read_step A.asks_for static_bytes range_bytes point_objects encoded runs all_bytes
  read_at b a e = rw (b, a, e, or-true (some K.is_carried after))

-- the classes are read from the state's own inputs, whatever it holds
abbrev pub points : PointsView
points = (state_at 0 [] false (session_with true None nothing)).shared.inputs

pub asks₁ : Q.ask points (read 0xC1) ≡ Q.reads 1 (events_of 1 ∷ [])
unfolding Q.ask A.headers_of A.asks_for static_bytes range_bytes point_objects encoded runs all_bytes
asks₁ = refl

pub asks₂ : Q.ask points (read 0xC2) ≡ Q.reads 2 (events_of 1 ∷ [])
unfolding Q.ask A.headers_of A.asks_for static_bytes range_bytes point_objects encoded runs all_bytes
asks₂ = refl

pub in-time : (R.bad_time 257 2000 ≡ false) × (R.bad_time 2000 8000 ≡ false)
unfolding R.bad_time
in-time = (refl, refl)

-- the bytes: the front as computed, then the events
read-bytes : (q control : ℕ)
    → I.response_of q true (S.indications_of (record { held = all256 true; overflow = true }) true) None ≡ control ∷ 0x81 ∷ 0x82 ∷ 0x08 ∷ []
    → ◌≡◌ {A = Answer}
    (answers (I.response_of q true (S.indications_of (record { held = all256 true; overflow = true }) true) None ++ (carried_bytes (all256 true) ++ [])) [])
    (read_answer control)
read-bytes q control e =
    ap (λ (l : List ℕ). answers (l ++ (carried_bytes (all256 true) ++ [])) []) e
    ∙ ap (λ (l : List ℕ). answers (control ∷ 0x81 ∷ 0x82 ∷ 0x08 ∷ l) [])
    (append-nil (carried_bytes (all256 true)) ∙ carried-bytes (all256 true) ∙ ap (λ (l : List Held). events_bytes (map (λ (h : Held). h.event) l)) carried-226)

pub by-read₁ : step (fragment 2000 (read 0xC1) fragment_max) w₁ ≡ record { state = w₂; answer = read_answer 0xE1 }
unfolding I.response_of
by-read₁ =
    read_at 257 2000 1 (read 0xC1) (all256 false) (all256 true) (session_with true None nothing) in-time.0 asks₁
    (ap (K.carry class1 (E.empty_space response_objects_max)) (unmarked-all false) ∙ marks)
    ∙ ap (λ (a : Answer). record { state = w₂; answer = a }) (read-bytes 1 0xE1 refl)

pub by-read₂ : step (fragment 8000 (read 0xC2) fragment_max) w₂ ≡ record { state = w₄; answer = read_answer 0xE2 }
unfolding I.response_of
by-read₂ =
    read_at 2000 8000 2 (read 0xC2) (all256 true) (all256 true) w₂.master.session in-time.1 asks₂
    (ap (K.carry class1 (E.empty_space response_objects_max)) (unmarked-all true) ∙ marks)
    ∙ ap (λ (a : Answer). record { state = w₄; answer = a }) (read-bytes 2 0xE2 refl)

-- ---- CONFIRM, too late and in time, of any events

pub by-late : (held : List Held) (m : LastRequestView) → let w = state_at 2000 held true (session_with true (awaits 1 2000) m) in
    step (fragment 7001 (confirm 0xC1) fragment_max) w ≡ record { state = w; answer = refuses 32 }
unfolding S.step S.fragment_step S.confirm_step R.bad_time Q.ask Q.is_confirmed
by-late held m = refl

confirm-at : (held : List Held) (m : LastRequestView)
    → step (fragment 9000 (confirm 0xC2) fragment_max) (state_at 8000 held true (session_with true (awaits 2 8000) m))
    ≡ record { state = state_at 9000 (filter K.not_carried held) false (session_with true None m); answer = accepts }
unfolding S.step S.fragment_step S.confirm_step S.confirmed_step R.bad_time Q.ask Q.is_confirmed
confirm-at held m = refl

pub by-confirm : step (fragment 9000 (confirm 0xC2) fragment_max) w₄ ≡ record { state = w₅; answer = accepts }
by-confirm =
    confirm-at (all256 true) (kept (read 0xC2) [])
    ∙ ap (λ (l : List Held). record { state = state_at 9000 l false w₅.master.session; answer = accepts }) waiting-30

-- ---- WRITE, and its repeat

pub by-write : step (fragment 9500 write fragment_max) w₅ ≡ record { state = w₆; answer = answers written [] }
unfolding S.step S.fragment_step S.request_step R.bad_time Q.ask I.response_of is_repeat same
by-write = refl

pub by-repeat : step (fragment 9600 write fragment_max) w₆ ≡ record { state = w₇; answer = answers written [] }
unfolding S.step S.fragment_step S.repeat_step R.bad_time Q.ask is_repeat same
by-repeat = refl
