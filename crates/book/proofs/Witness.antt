-- A run that demand 3's theorem speaks of, and what makes it worth reading: a drop, a table that is stopped, IIN2.3 shown and cleared,
-- a late CONFIRM, and a repeat.
-- Assumes nothing.
use Prim.Native.Nat.{ℕ, zero, suc, ◌+◌, ◌*◌, ◌-◌, ◌≤◌}
use mathlib.Core.Path.{◌≡◌, refl, ap, ◌∙◌}
use mathlib.Core.Bool.{Bool, true, false, not, cond, or-true}
use mathlib.Core.List.{List, [], ◌∷◌, ◌++◌, append-nil}
use native.Mathlib.Omega.{arith}
use lib.ListN.{length, get_or, drop}
use borrow.Author.Tests.{le-leb, leb-true}
use Rattle.laws.specs.Limits.{fragment_max, events_max}
use Rattle.read.specs.Response.{response_objects_max}
use Rattle.laws.specs.Lists.{is_nil, same, count}
use Rattle.points.specs.Reading as P
use Rattle.events.specs.declared.Event.{Event}
use Rattle.events.specs.declared.Shown.TheVariants.{State}
use Rattle.events.specs.declared.EventKind.TheVariants as EventKind
use Rattle.events.specs.Placing as E
use Rattle.std.proofs.Common.{Some, None}
use Rattle.read_headers.specs.Headers.{events_of}
use Rattle.read_headers.specs.Parse as A
use Rattle.objects.specs.Runs.{encoded, runs, all_bytes}
use Rattle.static_objects.specs.Static.{static_bytes, range_bytes, point_objects}
use Rattle.last_request.specs.Repeat.{nothing, kept}
use Rattle.outstation.specs.Setup.{Setup}
use Rattle.outstation.specs.Setup as U
use Rattle.outstation.specs.Setup.{setup_ok}
use Rattle.outstation.specs.OutstationView.{restarted}
use Rattle.outstation.specs.Lent.{Outstation, outstation_view}
use Rattle.outstation.specs.Readings as R
use Rattle.outstation.specs.Requests as Q
use Rattle.outstation.specs.Step.{Call, table, fragment, Answer, took, answers, silent, accepts, refuses}
use Rattle.outstation.specs.CallContracts.{StepHolds}
use Rattle.book.specs.Book as B
use Rattle.book.specs.Book.{Book, Row, Mark, held, released, dropped, row_released, row_dropped, BookWait, idle, awaiting, picks, release}
use Rattle.book.specs.Book.{drop_since, enter, book_of}
use Rattle.book.specs.Demand3.{overflow_bit, book_after, Ran, none, more}
use Rattle.book.proofs.Example.{one_binary}
use Rattle.book.proofs.LentMemory.{outstation_for, view-for}
use Rattle.book.proofs.Run.{did-for, counted-at, coded-newest, coded-256, fits-at, fits-restarted, calls, readings, read, confirm, write, written, read_answer}
use Rattle.book.proofs.Run.{class1, points, all256, newest, awaits, w₁, w₂, w₄, w₅, w₆, w₇, asks₁, asks₂, in-time}
use Rattle.book.proofs.Run.{by-table, by-read₁, by-late, by-read₂, by-confirm, by-write, by-repeat}

-- ---- the book's rows

-- n rows with this mark, one each millisecond
abbrev rows_at : Mark → (n time : ℕ) → Bool → List Row
rows_at m zero time on = []
rows_at m (suc n) time on =
    record { event = record { point = 0; shown = State on; flags = 1; time = time; class = 1 }; mark = m } ∷ rows_at m n (suc time) (not on)

-- the 257: those that the response carries with this mark, the newest held, the last dropped
abbrev all257 : Mark → List Row
all257 m = rows_at m 226 1 true ++ (rows_at held 30 227 true ++ rows_at dropped 1 257 true)

-- n numbers from i on
abbrev up_to : (n i : ℕ) → List ℕ
up_to zero i = []
up_to (suc n) i = i ∷ up_to n (suc i)

-- while there is room, each costs 9 bytes, and the first of them 5 more
more-picked : (n r i t : ℕ) (on : Bool) (l : List Row)
    → picks class1 (record { left = n * 9 + r; kind = Some EventKind.Binary }) i (rows_at held n t on ++ l)
    ≡ up_to n i ++ picks class1 (record { left = r; kind = Some EventKind.Binary }) (n + i) l
unfolding E.fits E.space_after E.cost_of
more-picked zero r i t on l = let e : 0 * 9 + r ≡ r = omega arith in let j : 0 + i ≡ i = omega arith in rw (e, j)
more-picked (suc n) r i t on l =
    let e : suc n * 9 + r - 9 ≡ n * 9 + r = omega arith in
    let j : n + suc i ≡ suc n + i = omega arith in
    rw (le-leb 9 (suc n * 9 + r) (omega arith), e, more-picked n r (suc i) (suc t) (not on) l, j)

first-picked : (n r i t : ℕ) (on : Bool) (l : List Row)
    → picks class1 (E.empty_space (n * 9 + r + 14)) i (rows_at held (suc n) t on ++ l)
    ≡ up_to (suc n) i ++ picks class1 (record { left = r; kind = Some EventKind.Binary }) (n + suc i) l
unfolding E.fits E.space_after E.cost_of
first-picked n r i t on l =
    let e : n * 9 + r + 14 - 14 ≡ n * 9 + r = omega arith in
    rw (le-leb 14 (n * 9 + r + 14) (omega arith), e, more-picked n r (suc i) (suc t) (not on) l)

none-picked : (n i t : ℕ) (on : Bool) (l : List Row) → picks class1 (record { left = 5; kind = Some EventKind.Binary }) i (rows_at held (suc n) t on ++ l) ≡ []
unfolding E.fits E.space_after E.cost_of
none-picked n i t on l = refl

picked-226 : picks class1 (E.empty_space response_objects_max) 0 (all257 held) ≡ up_to 226 0
picked-226 =
    first-picked 225 5 0 1 true (rows_at held 30 227 true ++ rows_at dropped 1 257 true)
    ∙ ap (λ (l : List ℕ). up_to 226 0 ++ l) (none-picked 29 226 227 true (rows_at dropped 1 257 true))
    ∙ append-nil (up_to 226 0)

released-226 : release (up_to 226 0) 0 (all257 held) ≡ all257 released
released-226 = refl

-- ---- the book after each call

abbrev book_at : (clock : ℕ) → List Row → BookWait → (warning : Bool) (last : List ℕ) (built : ℕ) → Book
book_at clock rows wait warning last built =
    record {
      shared = record { confirm_time = 5000; clock = clock; inputs = points };
      master = record { rows = rows; wait = wait; warning = warning; last = last; built = built };
    }

book-table : (enter (table readings) (book_of one_binary)).book ≡ book_at 257 (all257 held) idle true [] 0
unfolding B.book_of B.enter B.table_from B.enter_reading B.reading_entries B.enter_event B.full U.binary_classes U.analog_setups
    R.apply_reading R.bad_time P.read_binary P.is_reported P.is_raised
book-table = refl

module _ (rows : List Row) where
  abbrev picked : List ℕ
  picked = picks class1 (E.empty_space response_objects_max) 0 rows

  book-read : (clock time q : ℕ) (f last : List ℕ) (wait : BookWait) (built : ℕ) → R.bad_time clock time ≡ false → Q.ask points f ≡ Q.reads q (events_of 1 ∷ [])
      → (enter (fragment time f fragment_max) (book_at clock rows wait true last built)).book
      ≡ book_at time rows (awaiting q time picked (length rows) built) true f (suc built)
  unfolding B.enter B.fragment_entry B.read_entry A.asks_for static_bytes range_bytes point_objects encoded runs all_bytes
  book-read clock time q f last wait built b a = rw (b, a, or-true (not (is_nil picked)))

  book-late : (ws : List ℕ) (n k : ℕ) (last : List ℕ) (built : ℕ) → let b = book_at 2000 rows (awaiting 1 2000 ws n k) true last built in
      (enter (fragment 7001 (confirm 0xC1) fragment_max) b).book ≡ b
  unfolding B.enter B.fragment_entry B.confirm_entry R.bad_time Q.ask Q.is_confirmed
  book-late ws n k last built = refl

  book-confirm : (ws : List ℕ) (n k : ℕ) (last : List ℕ) (built : ℕ)
      → (enter (fragment 9000 (confirm 0xC2) fragment_max) (book_at 8000 rows (awaiting 2 8000 ws n k) true last built)).book
      ≡ book_at 9000 (release ws 0 rows) idle (cond (drop_since n rows) true false) last built
  unfolding B.enter B.fragment_entry B.confirm_entry B.confirmed_entry R.bad_time Q.ask Q.is_confirmed
  book-confirm ws n k last built = refl

  book-write : (warning : Bool) (built : ℕ)
      → (enter (fragment 9500 write fragment_max) (book_at 9000 rows idle warning (read 0xC2) built)).book ≡ book_at 9500 rows idle warning write (suc built)
  unfolding B.enter B.fragment_entry B.other_entry R.bad_time Q.ask same
  book-write warning built = refl

  book-repeat : (warning : Bool) (built : ℕ)
      → (enter (fragment 9600 write fragment_max) (book_at 9500 rows idle warning write built)).book ≡ book_at 9600 rows idle warning write built
  unfolding B.enter B.fragment_entry B.repeat_entry R.bad_time Q.ask same
  book-repeat warning built = refl

-- the rows after the calls
rows-after : (book_after calls (book_of one_binary)).master.rows ≡ all257 released
rows-after =
    let rows = all257 held in
    let ws = picked rows in
    let warning = cond (drop_since (length rows) rows) true false in
    ap (λ (b : Book). b.master.rows)
    (ap (book_after (drop 1 calls)) book-table
    ∙ ap (book_after (drop 2 calls)) (book-read rows 257 2000 1 (read 0xC1) [] idle 0 in-time.0 asks₁)
    ∙ ap (book_after (drop 3 calls)) (book-late rows ws (length rows) 0 (read 0xC1) 1)
    ∙ ap (book_after (drop 4 calls)) (book-read rows 2000 8000 2 (read 0xC2) (read 0xC1) (awaiting 1 2000 ws (length rows) 0) 1 in-time.1 asks₂)
    ∙ ap (book_after (drop 5 calls)) (book-confirm rows ws (length rows) 1 (read 0xC2) 2)
    ∙ ap (book_after (drop 6 calls)) (book-write (release ws 0 rows) warning 2)
    ∙ book-repeat (release ws 0 rows) warning 3)
    ∙ ap (λ (l : List ℕ). release l 0 rows) picked-226
    ∙ released-226

-- ---- how many have a mark

module _ (q : Row → Bool) (m : Mark) where
  count-all : ((e : Event) → q (record { event = e; mark = m }) ≡ true) → (n t : ℕ) (on : Bool) (l : List Row)
      → count q (rows_at m n t on ++ l) ≡ n + count q l
  count-all a zero t on l = omega arith
  count-all a (suc n) t on l =
      let c = count-all a n (suc t) (not on) l in
      rw (a (record { point = 0; shown = State on; flags = 1; time = t; class = 1 })) (omega arith)

  count_none : ((e : Event) → q (record { event = e; mark = m }) ≡ false) → (n t : ℕ) (on : Bool) (l : List Row)
      → count q (rows_at m n t on ++ l) ≡ count q l
  count_none a zero t on l = refl
  count_none a (suc n) t on l =
      rw (a (record { point = 0; shown = State on; flags = 1; time = t; class = 1 })) (count_none a n (suc t) (not on) l)

one-dropped : count row_dropped (all257 released) ≡ 1
one-dropped =
    count_none row_dropped released (λ e. refl) 226 1 true (rows_at held 30 227 true ++ rows_at dropped 1 257 true)
    ∙ count_none row_dropped held (λ e. refl) 30 227 true (rows_at dropped 1 257 true)

some-released : count row_released (all257 released) ≡ 226
some-released =
    count-all row_released released (λ e. refl) 226 1 true (rows_at held 30 227 true ++ rows_at dropped 1 257 true)
    ∙ ap (λ (n : ℕ). 226 + n) (count_none row_released held (λ e. refl) 30 227 true (rows_at dropped 1 257 true))

-- ---- the run

abbrev ans : List Answer
ans =
    took 258 4
    ∷ read_answer 0xE1
    ∷ refuses 32
    ∷ read_answer 0xE2
    ∷ accepts
    ∷ answers written []
    ∷ answers written []
    ∷ []

run : Ran Outstation StepHolds (outstation_for (restarted one_binary)) calls ans (outstation_for w₇)
run =
    let l : length (all256 false) ≤ events_max = leb-true (length (all256 false)) events_max refl in
    let m : length (all256 true) ≤ events_max = leb-true (length (all256 true)) events_max refl in
    let n : length newest ≤ events_max = leb-true (length newest) events_max refl in
    let k₁ = kept (read 0xC1) [] in
    let k₂ = kept (read 0xC2) [] in
    let k₃ = kept write written in
    let f₀ = fits-restarted in
    let f₁ = fits-at 257 (all256 false) true true None nothing l (coded-256 false) in
    let f₂ = fits-at 2000 (all256 true) true true (awaits 1 2000) k₁ m (coded-256 true) in
    let f₄ = fits-at 8000 (all256 true) true true (awaits 2 8000) k₂ m (coded-256 true) in
    let f₅ = fits-at 9000 newest false true None k₂ n coded-newest in
    let f₆ = fits-at 9500 newest false false None k₃ n coded-newest in
    let f₇ = fits-at 9600 newest false false None k₃ n coded-newest in
    let in₂ = counted-at 2000 (all256 true) true true (awaits 1 2000) k₁ m (omega arith) (omega arith) in
    more (did-for (restarted one_binary) w₁ (table readings) (took 258 4) f₀ f₁ (counted-at 257 (all256 false) true true None nothing l (omega arith) (omega arith)) by-table)
    (more (did-for w₁ w₂ (fragment 2000 (read 0xC1) fragment_max) (read_answer 0xE1) f₁ f₂ in₂ by-read₁)
    (more (did-for w₂ w₂ (fragment 7001 (confirm 0xC1) fragment_max) (refuses 32) f₂ f₂ in₂ (by-late (all256 true) k₁))
    (more
    (did-for w₂ w₄ (fragment 8000 (read 0xC2) fragment_max) (read_answer 0xE2) f₂ f₄
    (counted-at 8000 (all256 true) true true (awaits 2 8000) k₂ m (omega arith) (omega arith)) by-read₂)
    (more
    (did-for w₄ w₅ (fragment 9000 (confirm 0xC2) fragment_max) accepts f₄ f₅
    (counted-at 9000 newest false true None k₂ n (omega arith) (omega arith)) by-confirm)
    (more
    (did-for w₅ w₆ (fragment 9500 write fragment_max) (answers written []) f₅ f₆
    (counted-at 9500 newest false false None k₃ n (omega arith) (omega arith)) by-write)
    (more
    (did-for w₆ w₇ (fragment 9600 write fragment_max) (answers written []) f₆ f₇
    (counted-at 9600 newest false false None k₃ n (omega arith) (omega arith)) by-repeat)
    none))))))

-- answer number k, and its bytes
abbrev answer_at : List Answer → ℕ → Answer
answer_at l k = get_or l k accepts

abbrev bytes_of : Answer → List ℕ
bytes_of (took k n) = []
bytes_of (answers bytes operated) = bytes
bytes_of (silent operated) = []
bytes_of accepts = []
bytes_of (refuses n) = []

-- such a run
pub record Witness (u : Setup) (o : Outstation) (cs : List Call) (l : List Answer) (o₂ : Outstation) : Type 0 where
  pub accepted : setup_ok u ≡ true
  pub start : outstation_view o ≡ restarted u
  pub ran : Ran Outstation StepHolds o cs l o₂
  -- a table of 260 readings is stopped at the refused one
  pub stopped : answer_at l 0 ≡ took 258 4
  -- READ shows IIN2.3, and its CONFIRM is too late
  pub shown : overflow_bit (bytes_of (answer_at l 1)) ≡ true
  pub late : answer_at l 2 ≡ refuses 32
  -- READ again, and its CONFIRM, which clears it
  pub still : overflow_bit (bytes_of (answer_at l 3)) ≡ true
  pub is_confirmed : answer_at l 4 ≡ accepts
  pub cleared : overflow_bit (bytes_of (answer_at l 5)) ≡ false
  -- a repeat has the same answer again
  pub repeated : answer_at l 6 ≡ answer_at l 5
  -- of 257 events raised one was dropped, and 226 were released
  pub raised : length (book_after cs (book_of u)).master.rows ≡ 257
  pub dropped : count row_dropped (book_after cs (book_of u)).master.rows ≡ 1
  pub released : count row_released (book_after cs (book_of u)).master.rows ≡ 226

pub witness : Witness one_binary (outstation_for (restarted one_binary)) calls ans (outstation_for w₇)
unfolding setup_ok U.binary_classes U.analog_setups U.analog_outputs
witness =
    record {
      accepted = refl;
      start = view-for (restarted one_binary) fits-restarted;
      ran = run;
      stopped = refl;
      shown = refl;
      late = refl;
      still = refl;
      is_confirmed = refl;
      cleared = refl;
      repeated = refl;
      raised = ap length rows-after;
      dropped = ap (count row_dropped) rows-after ∙ one-dropped;
      released = ap (count row_released) rows-after ∙ some-released;
    }
