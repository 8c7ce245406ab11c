-- Demand 3 as one statement over every list of calls. A history is what happened, newest first.
-- Assumes nothing.
use Rattle.std.specs.Prelude.{ℕ, ◌+◌, ◌<◌, ◌/◌, ◌%◌, ◌≡◌, ◌↔◌, Bool, true, not, cond, eqb, length, get_or, drop}
use mathlib.Core.List.{List, [], ◌∷◌, ◌++◌, map, Memᴰ}
use Rattle.laws.specs.Limits.{events_max}
use Rattle.laws.specs.Lists.{filter, count, member}
use Rattle.control.specs.declared.ControlObject.{ControlObject}
use Rattle.control.specs.Objects.{formed, objects_by}
use Rattle.control.specs.Status.{echo_with}
use Rattle.events.specs.declared.Event.{Event}
use Rattle.events.specs.declared.Held.{Held}
use Rattle.events.specs.BufferView.{no_held}
use Rattle.event_objects.specs.Events.{events_bytes}
use Rattle.outstation.specs.Setup.{Setup, setup_ok}
use Rattle.outstation.specs.OutstationView.{OutstationView, restarted}
use Rattle.outstation.specs.Lent.{Outstation, outstation_view, CountsWithin}
use Rattle.outstation.specs.Step.{Call, Answer, took, answers, silent, accepts, refuses}
use Rattle.outstation.specs.CallContracts.{StepHolds}
use Rattle.book.specs.Book as B
use Rattle.book.specs.Book.{Book, Row, Mark, BookAnswer, HistoryEntry, hold!, drop!, built!, confirmed!, row_held, row_released, row_dropped, row_event, enter, book_of}

abbrev pub Has : HistoryEntry → List HistoryEntry → Type 0
Has x h = Memᴰ x h

-- when IIN2.3 is to stand: events were dropped, and no response built after the latest drop has been confirmed
pub record Pending (h : List HistoryEntry) : Type 0 where
  pub later : List HistoryEntry
  pub row : ℕ
  pub earlier : List HistoryEntry
  pub split : h ≡ later ++ drop! row ∷ earlier
  pub latest : (r : ℕ) → Has (drop! r) later → ⊥
  pub unconfirmed : (k : ℕ) (ws : List ℕ) → Has (built! k ws) later → Has (confirmed! k) h → ⊥

-- row number i's event
abbrev pub no_row : Row
no_row = record { event = no_held.event; mark = Mark.dropped }

abbrev pub event_at : List Row → ℕ → Event
event_at rows i = row_event (get_or rows i no_row)

-- IIN2.3 of a response: bit 3 of its fourth byte
abbrev pub overflow_bit : List ℕ → Bool
overflow_bit bytes = eqb (get_or bytes 3 0 / 8 % 2) 1

-- a response newly built: its IIN2.3 stood exactly when Pending, h the history before the call
pub record Response (h : List HistoryEntry) (a : Answer) : Type 0 where
  pub bytes : List ℕ
  pub operated : List ControlObject
  pub is : a ≡ answers bytes operated
  pub overflow : (overflow_bit bytes ≡ true) ↔ Pending h

-- and these objects stand behind its four bytes, nothing else
pub record Building (h : List HistoryEntry) (a : Answer) (o : List ℕ) : Type 0 where
  pub response : Response h a
  pub long : length response.bytes ≡ 4 + length o
  pub objects : drop 4 response.bytes ≡ o

-- a control request's, o its object bytes: "The answer echoes header and objects with status"; a wrong form has no objects
pub record Echoing (h : List HistoryEntry) (a : Answer) (o : List ℕ) : Type 0 where
  pub statuses : List ℕ
  pub each : length statuses ≡ length (objects_by (formed o) o)
  pub building : Building h a (echo_with (formed o) statuses o)

-- function 6
pub record Unanswered (a : Answer) : Type 0 where
  pub operated : List ControlObject
  pub is : a ≡ silent operated

-- a repeat: "the same answer again, nothing done", so nothing is handed to the host
abbrev pub again : Answer → Answer
again (took taken refusal) = took taken refusal
again (answers bytes operated) = answers bytes []
again (silent operated) = silent []
again accepts = accepts
again (refuses n) = refuses n

-- the answer to the last accepted request, after a call answered a
abbrev pub kept_by : BookAnswer → (last a : Answer) → Answer
kept_by (B.takes taken refusal) last a = last
kept_by (B.refuses n) last a = last
kept_by B.accepts last a = last
kept_by (B.carries ws static) last a = a
kept_by B.plain last a = a
kept_by (B.echoes o) last a = a
kept_by B.unanswered last a = a
kept_by B.repeats last a = last

-- the answer to a call against what the book says of it, h the history before the call, last the answer to the last request
abbrev pub AnswerAgrees : List HistoryEntry → (last : Answer) → List Row → BookAnswer → Answer → Type 0
AnswerAgrees h last rows (B.takes taken refusal) a = a ≡ took taken refusal
AnswerAgrees h last rows (B.refuses n) a = a ≡ refuses n
AnswerAgrees h last rows B.accepts a = a ≡ accepts
-- the rows' events in their encoding, then the static part
AnswerAgrees h last rows (B.carries ws static) a = Building h a (events_bytes (map (event_at rows) ws) ++ static)
AnswerAgrees h last rows B.plain a = Building h a []
AnswerAgrees h last rows (B.echoes o) a = Echoing h a o
AnswerAgrees h last rows B.unanswered a = Unanswered a
AnswerAgrees h last rows B.repeats a = a ≡ again last

-- the answers to a list of calls
abbrev pub AllAgree : Book → List HistoryEntry → (last : Answer) → List Call → List Answer → Type 0
AllAgree b h last [] [] = Unit {0}
AllAgree b h last [] (a ∷ ans) = ⊥
AllAgree b h last (c ∷ cs) [] = ⊥
AllAgree b h last (c ∷ cs) (a ∷ ans) =
    AnswerAgrees h last (enter c b).book.master.rows (enter c b).answer a
    × AllAgree (enter c b).book ((enter c b).entries ++ h) (kept_by (enter c b).answer last a) cs ans

abbrev pub book_after : List Call → Book → Book
book_after [] b = b
book_after (c ∷ cs) b = book_after cs (enter c b).book

abbrev pub history_after : List Call → Book → List HistoryEntry → List HistoryEntry
history_after [] b h = h
history_after (c ∷ cs) b h = history_after cs (enter c b).book ((enter c b).entries ++ h)

abbrev pub mark_at : List Row → ℕ → Mark
mark_at rows i = (get_or rows i no_row).mark

-- ---- the place of each event, in terms of the history alone

-- the rows that response k was built with
abbrev pub rows_of : ℕ → List HistoryEntry → List ℕ
rows_of k [] = []
rows_of k (hold! row ∷ h) = rows_of k h
rows_of k (drop! row ∷ h) = rows_of k h
rows_of k (built! number rows ∷ h) = cond (eqb k number) rows (rows_of k h)
rows_of k (confirmed! number ∷ h) = rows_of k h

-- the numbers that are not among ws
abbrev pub without : List ℕ → List ℕ → List ℕ
without ws l = filter (λ i. not (member i ws)) l

-- the numbers of the events held after a history, oldest first
abbrev pub held_after : List HistoryEntry → List ℕ
held_after [] = []
held_after (hold! row ∷ h) = held_after h ++ (row ∷ [])
held_after (drop! row ∷ h) = held_after h
held_after (built! number rows ∷ h) = held_after h
held_after (confirmed! number ∷ h) = without (rows_of number h) (held_after h)

-- event i was dropped because 256 were held at that moment
pub record DroppedAt (h : List HistoryEntry) (i : ℕ) : Type 0 where
  pub later : List HistoryEntry
  pub earlier : List HistoryEntry
  pub split : h ≡ later ++ drop! i ∷ earlier
  pub full : length (held_after earlier) ≡ events_max

-- it was held when it was raised, fewer than 256 being held at that moment
pub record HeldAt (h : List HistoryEntry) (i : ℕ) : Type 0 where
  pub later : List HistoryEntry
  pub earlier : List HistoryEntry
  pub split : h ≡ later ++ hold! i ∷ earlier
  pub room : length (held_after earlier) < events_max

-- it was carried by a response that was built before it was confirmed
pub record ReleasedBy (h : List HistoryEntry) (i : ℕ) : Type 0 where
  pub later : List HistoryEntry
  pub between : List HistoryEntry
  pub earlier : List HistoryEntry
  pub number : ℕ
  pub rows : List ℕ
  pub split : h ≡ later ++ confirmed! number ∷ (between ++ built! number rows ∷ earlier)
  pub carried : member i rows ≡ true

-- the place of event i, known by its place in the order raised: its mark says what happened to it, and it has one mark
pub record Placed (rows : List Row) (h : List HistoryEntry) (i : ℕ) : Type 0 where
  pub dropped : (mark_at rows i ≡ Mark.dropped) ↔ DroppedAt h i
  pub released : (mark_at rows i ≡ Mark.released) ↔ ReleasedBy h i
  pub held : (mark_at rows i ≡ Mark.held) ↔ (HeldAt h i × (ReleasedBy h i → ⊥))

-- what demand 3 says after a list of calls, w the outstation and ans the answers
pub record Demand3 (u : Setup) (cs : List Call) (ans : List Answer) (w : OutstationView) : Type 0 where
  -- the outstation accepted exactly what the book accepts, and each response carried exactly the rows that the book says; before
  -- the first request there is no answer to repeat, and no repeat
  pub agrees : AllAgree (book_of u) [] (silent []) cs ans
  -- every event raised is in exactly one place
  pub placed : (i : ℕ) → i < length (book_after cs (book_of u)).master.rows → Placed (book_after cs (book_of u)).master.rows (history_after cs (book_of u) []) i
  -- it holds exactly the book's held events, in that order
  pub holds : map (λ (x : Held). x.event) w.master.buffer.held ≡ map row_event (filter row_held (book_after cs (book_of u)).master.rows)
  -- raised = held + released + dropped
  pub places : length (book_after cs (book_of u)).master.rows
      ≡ length w.master.buffer.held + count row_released (book_after cs (book_of u)).master.rows + count row_dropped (book_after cs (book_of u)).master.rows

-- a list of calls, each on what the one before left; `did` is what a call's contract ensures
module _ (O : Type 0) (did : O → Call → Answer → O → Type 0) where
  pub data Ran : O → List Call → List Answer → O → Type 0 where
    none : {o : O} → Ran o [] [] o
    more : {o o₁ o₂ : O} {c : Call} {cs : List Call} {a : Answer} {ans : List Answer} → did o c a o₁ → Ran o₁ cs ans o₂ → Ran o (c ∷ cs) (a ∷ ans) o₂

-- no count kept in the state passes its array after any list of calls, where none did before: from a restart on, none ever does
abbrev pub CountsHold : Type 0
CountsHold = (o o₂ : Outstation) (cs : List Call) (ans : List Answer) → CountsWithin o → Ran Outstation StepHolds o cs ans o₂ → CountsWithin o₂

-- demand 3: from any accepted setup's restart, over every list of calls of the outstation's functions
abbrev pub Demand3Holds : Type 0
Demand3Holds =
    (u : Setup) (o o₂ : Outstation) (cs : List Call) (ans : List Answer) → setup_ok u ≡ true → outstation_view o ≡ restarted u → Ran Outstation StepHolds o cs ans o₂
    → Demand3 u cs ans (outstation_view o₂)
