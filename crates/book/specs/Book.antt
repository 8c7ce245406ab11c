-- The event book (document 01, "The event book"): "fed setup and arguments, the length of the lent output among them, and no answers".
-- Assumes nothing.
use Rattle.std.specs.Prelude.{ℕ, suc, Bool, true, false, not, cond, ◌&&◌, ◌||◌, List, [], ◌∷◌, ◌++◌, map, length, drop, eqb, ltb}
use Rattle.laws.specs.First.{first, ◌⇒◌}
use Rattle.laws.specs.Limits.{fragment_max, events_max}
use Rattle.laws.specs.Lists.{some, count, is_nil, member, same}
use Rattle.application.specs.Fragment.{objects_of}
use Rattle.points.specs.PointsView.{PointsView}
use Rattle.points.specs.Setup.{fresh_binary, fresh_analog}
use Rattle.events.specs.declared.Event.{Event}
use Rattle.events.specs.declared.Classes.{Classes}
use Rattle.events.specs.declared.Space.{Space}
use Rattle.events.specs.Placing.{is_asked, empty_space, fits, space_after}
use Rattle.read_headers.specs.declared.Header.{Header}
use Rattle.static_objects.specs.Static.{static_bytes}
use Rattle.outstation.specs.Setup.{Setup}
use Rattle.outstation.specs.declared.Reading.{Reading}
use Rattle.outstation.specs.Setup.{binary_classes, analog_setups}
use Rattle.outstation.specs.Readings.{bad_time, ReadingEffect, apply_reading}
use Rattle.read.specs.Response.{classes_of, room_beside}
use Rattle.outstation.specs.Requests.{Ask, malformed, confirms, reads, misreads, asks, ask, is_confirmed}
use Rattle.outstation.specs.Step.{Call, reading, table, fragment, on_effect}

-- ---- "It keeps the clock, each point as "Readings" needs it, the last request, the wait, a warning (its IIN2.3) and a row for
-- each event raised: point, shown value and flags, time, mark."

pub data Mark : Type 0 where
  held released dropped : Mark

pub record Row : Type 0 where
  pub event : Event
  pub mark : Mark

-- no wait; or one: the response's sequence and time, the numbers of the rows that it carries, how many rows there were, and its
-- number among the responses newly built
pub data BookWait : Type 0 where
  idle : BookWait
  awaiting : (sequence time : ℕ) (rows : List ℕ) (upto number : ℕ) → BookWait

-- what all masters share: the confirm time, the clock and the points
pub record BookShared : Type 0 where
  pub confirm_time : ℕ
  pub clock : ℕ
  pub inputs : PointsView

-- what belongs to one master; built: how many responses were newly built for it
pub record BookMaster : Type 0 where
  pub rows : List Row
  pub wait : BookWait
  pub warning : Bool
  pub last : List ℕ
  pub built : ℕ

pub record Book : Type 0 where
  pub shared : BookShared
  pub master : BookMaster

-- ---- one part set, all else as it was

abbrev pub with_clock : ℕ → BookShared → BookShared
with_clock time s = record { confirm_time = s.confirm_time; clock = time; inputs = s.inputs }

abbrev pub with_inputs : PointsView → BookShared → BookShared
with_inputs i s = record { confirm_time = s.confirm_time; clock = s.clock; inputs = i }

abbrev pub with_rows : List Row → BookMaster → BookMaster
with_rows rows m = record { rows = rows; wait = m.wait; warning = m.warning; last = m.last; built = m.built }

abbrev pub with_wait : BookWait → BookMaster → BookMaster
with_wait wait m = record { rows = m.rows; wait = wait; warning = m.warning; last = m.last; built = m.built }

abbrev pub with_warning : Bool → BookMaster → BookMaster
with_warning warning m = record { rows = m.rows; wait = m.wait; warning = warning; last = m.last; built = m.built }

-- the last request, and how many responses were newly built with its own
abbrev pub with_request : (last : List ℕ) (built : ℕ) → BookMaster → BookMaster
with_request last built m = record { rows = m.rows; wait = m.wait; warning = m.warning; last = last; built = built }

abbrev pub with_shared : BookShared → Book → Book
with_shared s b = record { shared = s; master = b.master }

abbrev pub with_master : BookMaster → Book → Book
with_master m b = record { shared = b.shared; master = m }

-- "an accepted one sets the clock"
abbrev pub at_time : ℕ → Book → Book
at_time time b = with_shared (with_clock time b.shared) b

-- ---- marks

abbrev pub is_held : Mark → Bool
is_held held = true
is_held released = false
is_held dropped = false

abbrev pub is_released : Mark → Bool
is_released held = false
is_released released = true
is_released dropped = false

abbrev pub is_dropped : Mark → Bool
is_dropped held = false
is_dropped released = false
is_dropped dropped = true

abbrev pub row_held : Row → Bool
row_held r = is_held r.mark

abbrev pub row_released : Row → Bool
row_released r = is_released r.mark

abbrev pub row_dropped : Row → Bool
row_dropped r = is_dropped r.mark

abbrev pub row_event : Row → Event
row_event r = r.event

-- ---- what the book says of a call

-- so many readings taken, and the refusal that stopped them (0: none); a fragment refused; a CONFIRM accepted; a faultless READ's
-- response newly built, with the rows that it carries and its static part; another response newly built, without objects (a READ's
-- fault, WRITE, an unknown function); a control request's newly built, the echo of these object bytes of the request; function 6,
-- newly accepted and not answered; a repeat
pub data BookAnswer : Type 0 where
  takes : (taken refusal : ℕ) → BookAnswer
  refuses : ℕ → BookAnswer
  accepts : BookAnswer
  carries : (rows : List ℕ) (static : List ℕ) → BookAnswer
  plain : BookAnswer
  echoes : (objects : List ℕ) → BookAnswer
  unanswered : BookAnswer
  repeats : BookAnswer

-- what happened: a row held when it was raised; one dropped; response k newly built with these rows; response k confirmed
pub data HistoryEntry : Type 0 where
  hold! : (row : ℕ) → HistoryEntry
  drop! : (row : ℕ) → HistoryEntry
  built! : (number : ℕ) (rows : List ℕ) → HistoryEntry
  confirmed! : (number : ℕ) → HistoryEntry

-- the book after a call, what it says of it, and what happened, newest first
pub record Entry : Type 0 where
  pub book : Book
  pub answer : BookAnswer
  pub entries : List HistoryEntry

-- "A call refused by the table below changes nothing"
abbrev pub refused_entry : ℕ → Book → Entry
refused_entry n b = record { book = b; answer = refuses n; entries = [] }

-- ---- readings: "A raised event is a new row, dropped if 256 are held, else held; a drop sets the warning."

unfoldable pub full : BookMaster → Bool
full m = not (ltb (count row_held m.rows) events_max)

unfoldable pub enter_event : Event → BookMaster → BookMaster
enter_event e m =
    cond (full m)
    (with_warning true (with_rows (m.rows ++ (record { event = e; mark = dropped } ∷ [])) m))
    (with_rows (m.rows ++ (record { event = e; mark = held } ∷ [])) m)

-- a reading that is taken sets clock and points, and enters its event, if it raises one
unfoldable pub enter_reading : Book → Reading → ReadingEffect → Book
enter_reading b r h =
    with_shared (with_inputs h.inputs (with_clock r.time b.shared))
    (with_master (cond h.raised (enter_event h.event b.master) b.master) b)

unfoldable pub reading_entries : BookMaster → ReadingEffect → List HistoryEntry
reading_entries m h =
    first
    (not h.raised ⇒ []
    ∷ full m ⇒ (drop! (length m.rows) ∷ [])
    ∷ [])
    (hold! (length m.rows) ∷ [])

unfoldable pub reading_entry : Reading → Book → Entry
reading_entry r b =
    on_effect (apply_reading b.shared.clock b.shared.inputs r)
    (λ h. record { book = enter_reading b r h; answer = takes 1 0; entries = reading_entries b.master h })
    (λ n. record { book = b; answer = takes 0 n; entries = [] })

-- "A table counts as its readings up to a refused one": from the k-th on, the news so far handed on
unfoldable pub table_from : List Reading → ℕ → List HistoryEntry → Book → Entry
table_from [] k ns b = record { book = b; answer = takes k 0; entries = ns }
table_from (r ∷ rs) k ns b =
    on_effect (apply_reading b.shared.clock b.shared.inputs r)
    (λ h. table_from rs (suc k) (reading_entries b.master h ++ ns) (enter_reading b r h))
    (λ n. record { book = b; answer = takes k n; entries = ns })

-- ---- requests: "Requests except repeats end the wait. A faultless READ carries the held rows that its rule picks; with CON it
-- waits for its CONFIRM."

-- the numbers of the rows that a READ picks, from row i on: held, asked for, oldest first, up to the first that does not fit
abbrev pub picks : Classes → Space → ℕ → List Row → List ℕ
picks m k i [] = []
picks m k i (r ∷ rs) =
    first
    (not (row_held r && is_asked m r.event.class) ⇒ picks m k (suc i) rs
    ∷ not (fits k r.event) ⇒ []
    ∷ [])
    (i ∷ picks m (space_after k r.event) (suc i) rs)

abbrev pub picked : Book → List Header → List ℕ
picked b hs = picks (classes_of hs) (empty_space (room_beside b.shared.inputs hs)) 0 b.master.rows

-- CON is set where it carries a row or shows the warning
abbrev pub read_wait : Book → ℕ → ℕ → List Header → BookWait
read_wait b q time hs =
    cond (not (is_nil (picked b hs)) || b.master.warning) (awaiting q time (picked b hs) (length b.master.rows) b.master.built) idle

unfoldable pub read_entry : Book → ℕ → ℕ → List ℕ → List Header → Entry
read_entry b q time f hs =
    record {
      book = at_time time (with_master (with_wait (read_wait b q time hs) (with_request f (suc b.master.built) b.master)) b);
      answer = carries (picked b hs) (static_bytes b.shared.inputs hs);
      entries = built! b.master.built (picked b hs) ∷ [];
    }

-- a request that is no READ and no repeat, by its function: "Function 6 is never answered"; the answer to 3 to 5 "echoes header and
-- objects with status"
unfoldable pub book_answer_of : (function : ℕ) (objects : List ℕ) → BookAnswer
book_answer_of function o = first (eqb function 6 ⇒ unanswered ∷ member function (3 ∷ 4 ∷ 5 ∷ []) ⇒ echoes o ∷ []) plain

-- a request that is no faultless READ and no repeat, and what is said of it; answered: it has a response
unfoldable pub other_entry : Book → (answered : Bool) → BookAnswer → ℕ → List ℕ → Entry
other_entry b answered answer time f =
    record {
      book = at_time time (with_master (with_wait idle (with_request f (cond answered (suc b.master.built) b.master.built) b.master)) b);
      answer = answer;
      entries = cond answered (built! b.master.built [] ∷ []) [];
    }

-- "A repeat's answer is not newly built."
unfoldable pub repeat_entry : Book → ℕ → Entry
repeat_entry b time = record { book = at_time time b; answer = repeats; entries = [] }

-- ---- CONFIRM: "An accepted CONFIRM ends the wait, marks those rows released and, with no drop since that response, clears the
-- warning."

-- the rows with those numbers are released; i is the first row's number
abbrev pub release : List ℕ → ℕ → List Row → List Row
release ws i [] = []
release ws i (r ∷ rs) = record { event = r.event; mark = cond (member i ws) released r.mark } ∷ release ws (suc i) rs

-- a drop since the book had that many rows
abbrev pub drop_since : ℕ → List Row → Bool
drop_since n rows = some row_dropped (drop n rows)

abbrev pub confirmed_master : List ℕ → (upto : ℕ) → BookMaster → BookMaster
confirmed_master ws upto m =
    with_wait idle
    (with_warning (cond (drop_since upto m.rows) m.warning false)
    (with_rows (release ws 0 m.rows) m))

unfoldable pub confirmed_entry : Book → ℕ → List ℕ → ℕ → ℕ → Entry
confirmed_entry b time ws upto number =
    record {
      book = at_time time (with_master (confirmed_master ws upto b.master) b);
      answer = accepts;
      entries = confirmed! number ∷ [];
    }

unfoldable pub confirm_entry : Book → BookWait → ℕ → Bool → ℕ → Entry
confirm_entry b idle q uns time = refused_entry 32 b
confirm_entry b (awaiting awaited sent ws upto number) q uns time =
    cond (is_confirmed b.shared.confirm_time q uns time awaited sent) (confirmed_entry b time ws upto number) (refused_entry 32 b)

-- ---- fragments

abbrev pub ask_entry : Ask → Book → ℕ → List ℕ → Entry
ask_entry malformed b time f = refused_entry 31 b
ask_entry (confirms q uns) b time f = confirm_entry b b.master.wait q uns time
ask_entry (reads q hs) b time f = read_entry b q time f hs
ask_entry (misreads q n) b time f = other_entry b true plain time f
ask_entry (asks q function) b time f =
    cond (same f b.master.last) (repeat_entry b time) (other_entry b (not (eqb function 6)) (book_answer_of function (objects_of f)) time f)

unfoldable pub fragment_entry : (time : ℕ) (bytes : List ℕ) (room : ℕ) → Book → Entry
fragment_entry time f room b =
    first
    (bad_time b.shared.clock time ⇒ refused_entry 1 b
    ∷ ltb room fragment_max ⇒ refused_entry 33 b
    ∷ [])
    (ask_entry (ask b.shared.inputs f) b time f)

unfoldable pub enter : Call → Book → Entry
enter (reading r) b = reading_entry r b
enter (table rs) b = table_from rs 0 [] b
enter (fragment time f room) b = fragment_entry time f room b

-- the book of a setup
unfoldable pub book_of : Setup → Book
book_of u =
    record {
      shared =
          record {
            confirm_time = u.confirm_time;
            clock = 0;
            inputs = record { binaries = map fresh_binary (binary_classes u); analogs = map fresh_analog (analog_setups u) };
          };
      master = record { rows = []; wait = idle; warning = false; last = []; built = 0 };
    }
