-- What holds of a book and its history after every call, from what holds after each of six small steps.
-- Assumes nothing.
use Prim.Native.Nat.{ℕ, suc}
use mathlib.Core.Path.{◌≡◌, refl}
use mathlib.Core.Bool.{Bool, true, false, not, cond, ◌||◌}
use mathlib.Core.List.{List, [], ◌∷◌, ◌++◌, append_assoc}
use lib.ListN.{length}
use lib.Dec.{eqb, ltb}
use Rattle.laws.specs.Limits.{fragment_max, events_max}
use Rattle.laws.specs.Outcome.{Outcome, accepted, refused}
use Rattle.laws.specs.Lists.{count, is_nil, same}
use Rattle.application.specs.Fragment.{objects_of}
use Rattle.events.specs.declared.Event.{Event}
use Rattle.events.specs.declared.Classes.{Classes}
use Rattle.events.specs.declared.Space.{Space}
use Rattle.events.specs.Placing.{empty_space}
use Rattle.read_headers.specs.declared.Header.{Header}
use Rattle.outstation.specs.declared.Reading.{Reading}
use Rattle.outstation.specs.Readings.{bad_time, ReadingEffect, apply_reading}
use Rattle.read.specs.Response.{classes_of, room_beside}
use Rattle.outstation.specs.Requests.{Ask, malformed, confirms, reads, misreads, asks, ask, is_confirmed}
use Rattle.outstation.specs.Step.{Call, reading, table, fragment, on_effect}
use Rattle.book.specs.Book as B
use Rattle.book.specs.Book.{Book, Row, Entry, BookAnswer, BookWait, idle, awaiting, row_held, drop_since, picks, picked, release}
use Rattle.book.specs.Book.{hold!, drop!, built!, confirmed!, HistoryEntry}
use Rattle.laws.proofs.Choices.{by, split}
use Rattle.book.proofs.Rows.{held_row, dropped_row}

-- what an invariant K of wait, rows, warning, number of responses built and history has to bear
pub record Steps (K : BookWait → List Row → Bool → ℕ → List HistoryEntry → Type 0) : Type 0 where
  pub held : (w : BookWait) (rows : List Row) (warning : Bool) (built : ℕ) (h : List HistoryEntry) (e : Event)
      → ltb (count row_held rows) events_max ≡ true → K w rows warning built h
      → K w (rows ++ (held_row e ∷ [])) warning built (hold! (length rows) ∷ h)
  pub dropped : (w : BookWait) (rows : List Row) (warning : Bool) (built : ℕ) (h : List HistoryEntry) (e : Event)
      → ltb (count row_held rows) events_max ≡ false → K w rows warning built h
      → K w (rows ++ (dropped_row e ∷ [])) true built (drop! (length rows) ∷ h)
  pub ended : (w : BookWait) (rows : List Row) (warning : Bool) (built : ℕ) (h : List HistoryEntry) → K w rows warning built h
      → K idle rows warning built h
  pub built : (w : BookWait) (rows : List Row) (warning : Bool) (built : ℕ) (h : List HistoryEntry) (ws : List ℕ) → K w rows warning built h
      → K idle rows warning (suc built) (built! built ws ∷ h)
  pub awaited : (w : BookWait) (rows : List Row) (warning : Bool) (built : ℕ) (h : List HistoryEntry) (q t : ℕ) (m : Classes) (k : Space)
      → K w rows warning built h
      → K (awaiting q t (picks m k 0 rows) (length rows) built) rows warning (suc built) (built! built (picks m k 0 rows) ∷ h)
  pub is_confirmed : (rows : List Row) (warning : Bool) (built : ℕ) (h : List HistoryEntry) (q t : ℕ) (ws : List ℕ) (n k : ℕ)
      → K (awaiting q t ws n k) rows warning built h
      → K idle (release ws 0 rows) (cond (drop_since n rows) warning false) built (confirmed! k ∷ h)

-- what holds of both outcomes of a reading
effect_of {ℓ} : {A : Type 0} (P : A → Type ℓ) (v : Outcome ReadingEffect) {x : ReadingEffect → A} {y : ℕ → A} → ((h : ReadingEffect) → P (x h)) → ((n : ℕ) → P (y n))
    → P (on_effect v x y)
effect_of P (accepted h) p q = p h
effect_of P (refused n) p q = q n

module _ (K : BookWait → List Row → Bool → ℕ → List HistoryEntry → Type 0) where
  abbrev pub On : Book → List HistoryEntry → Type 0
  On b h = K b.master.wait b.master.rows b.master.warning b.master.built h

  abbrev pub OnEntry : List HistoryEntry → Entry → Type 0
  OnEntry h e = On e.book (e.entries ++ h)

module _ (K : BookWait → List Row → Bool → ℕ → List HistoryEntry → Type 0) (S : Steps K) where
  effect-on : (r : Reading) (x : ReadingEffect) (b : Book) (h : List HistoryEntry) → On K b h → On K (B.enter_reading b r x) (B.reading_entries b.master x ++ h)
  unfolding B.enter_reading B.reading_entries B.enter_event B.full
  effect-on r x b h k =
      by x.raised
      (λ t. by (ltb (count row_held b.master.rows) events_max)
      (λ f. rw (t, f) (S.held b.master.wait b.master.rows b.master.warning b.master.built h x.event f k))
      (λ f. rw (t, f) (S.dropped b.master.wait b.master.rows b.master.warning b.master.built h x.event f k)))
      (λ t. rw t k)

  reading-on : (r : Reading) (b : Book) (h : List HistoryEntry) → On K b h → OnEntry K h (B.reading_entry r b)
  unfolding B.reading_entry
  reading-on r b h k = effect_of (OnEntry K h) (apply_reading b.shared.clock b.shared.inputs r) (λ x. effect-on r x b h k) (λ n. k)

  table_on : (rs : List Reading) (j : ℕ) (ns : List HistoryEntry) (b : Book) (h : List HistoryEntry) → On K b (ns ++ h)
      → OnEntry K h (B.table_from rs j ns b)
  unfolding B.table_from
  table_on [] j ns b h k = k
  table_on (r ∷ rs) j ns b h k =
      effect_of (OnEntry K h) (apply_reading b.shared.clock b.shared.inputs r)
      (λ x. table_on rs (suc j) (B.reading_entries b.master x ++ ns) (B.enter_reading b r x) h (rw append_assoc (effect-on r x b (ns ++ h) k)))
      (λ n. k)

  other-on : (answered : Bool) (answer : BookAnswer) (t : ℕ) (f : List ℕ) (b : Book) (h : List HistoryEntry) → On K b h
      → OnEntry K h (B.other_entry b answered answer t f)
  unfolding B.other_entry
  other-on true answer t f b h k = S.built b.master.wait b.master.rows b.master.warning b.master.built h [] k
  other-on false answer t f b h k = S.ended b.master.wait b.master.rows b.master.warning b.master.built h k

  read-on : (q t : ℕ) (f : List ℕ) (hs : List Header) (b : Book) (h : List HistoryEntry) → On K b h → OnEntry K h (B.read_entry b q t f hs)
  unfolding B.read_entry
  read-on q t f hs b h k =
      split (λ w. K w b.master.rows b.master.warning (suc b.master.built) (built! b.master.built (picked b hs) ∷ h)) (not (is_nil (picked b hs)) || b.master.warning)
      (λ _. S.awaited b.master.wait b.master.rows b.master.warning b.master.built h q t (classes_of hs) (empty_space (room_beside b.shared.inputs hs)) k)
      (λ _. S.built b.master.wait b.master.rows b.master.warning b.master.built h (picked b hs) k)

  confirm-on : (q : ℕ) (uns : Bool) (t : ℕ) (b : Book) (h : List HistoryEntry) (w : BookWait) → b.master.wait ≡ w → On K b h
      → OnEntry K h (B.confirm_entry b w q uns t)
  unfolding B.confirm_entry B.confirmed_entry
  confirm-on q uns t b h idle e k = k
  confirm-on q uns t b h (awaiting q₁ t₁ ws n j) e k =
      split (OnEntry K h) (is_confirmed b.shared.confirm_time q uns t q₁ t₁)
      (λ _. S.is_confirmed b.master.rows b.master.warning b.master.built h q₁ t₁ ws n j (rw e at k))
      (λ _. k)

  ask-on : (a : Ask) (t : ℕ) (f : List ℕ) (b : Book) (h : List HistoryEntry) → On K b h → OnEntry K h (B.ask_entry a b t f)
  unfolding B.repeat_entry
  ask-on malformed t f b h k = k
  ask-on (confirms q uns) t f b h k = confirm-on q uns t b h b.master.wait refl k
  ask-on (reads q hs) t f b h k = read-on q t f hs b h k
  ask-on (misreads q n) t f b h k = other-on true B.plain t f b h k
  ask-on (asks q function) t f b h k =
      split (OnEntry K h) (same f b.master.last) (λ _. k) (λ _. other-on (not (eqb function 6)) (B.book_answer_of function (objects_of f)) t f b h k)

  pub enter-on : (c : Call) (b : Book) (h : List HistoryEntry) → On K b h → OnEntry K h (B.enter c b)
  unfolding B.enter B.fragment_entry
  enter-on (reading r) b h k = reading-on r b h k
  enter-on (table rs) b h k = table_on rs 0 [] b h k
  enter-on (fragment t f room) b h k =
      split (OnEntry K h) (bad_time b.shared.clock t)
      (λ _. k)
      (λ _. split (OnEntry K h) (ltb room fragment_max) (λ _. k) (λ _. ask-on (ask b.shared.inputs f) t f b h k))
