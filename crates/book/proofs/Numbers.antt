-- The numbers of the held events: the history's are those of the book's held rows, never above 256 of them.
-- Assumes nothing.
use Prim.Native.Nat.{ℕ, suc, ◌+◌, ◌≤◌, ◌<◌}
use mathlib.Core.Path.{◌≡◌, refl, ap, ◌∙◌}
use mathlib.Core.Bool.{Bool, true, false, cond}
use mathlib.Core.List.{List, [], ◌∷◌, ◌++◌, append-nil}
use native.Mathlib.Omega.{arith}
use lib.ListN.{length, length-append}
use lib.Dec.{ltb}
use borrow.Author.Tests.{eq-eqb, ltb-true, ltb-false}
use Rattle.laws.specs.Limits.{events_max}
use Rattle.laws.specs.Lists.{filter, count, member}
use Rattle.events.specs.declared.Event.{Event}
use Rattle.outstation.specs.Setup.{Setup}
use Rattle.outstation.specs.Step.{Call}
use Rattle.book.specs.Book as B
use Rattle.book.specs.Book.{Book, Row, row_held, BookWait, idle, awaiting, picks, release}
use Rattle.book.specs.Book.{hold!, drop!, built!, confirmed!, HistoryEntry}
use Rattle.book.specs.Demand3.{rows_of, without, held_after}
use Rattle.laws.proofs.Choices.{by, both, cond-eq}
use Rattle.book.proofs.Rows.{held_row, dropped_row}
use Rattle.book.proofs.Walk.{Steps, enter-on}

-- ---- the numbers of the rows marked held, from row i on

abbrev pub numbers_from : ℕ → List Row → List ℕ
numbers_from i [] = []
numbers_from i (r ∷ rs) = cond (row_held r) (i ∷ numbers_from (suc i) rs) (numbers_from (suc i) rs)

length-numbers : (i : ℕ) (rows : List Row) → length (numbers_from i rows) ≡ count row_held rows
length-numbers i [] = refl
length-numbers i (r ∷ rs) = cond-eq length (row_held r) (ap suc (length-numbers (suc i) rs)) (length-numbers (suc i) rs)

numbers-snoc : (i : ℕ) (rows : List Row) (r : Row) → numbers_from i (rows ++ (r ∷ [])) ≡ numbers_from i rows ++ numbers_from (i + length rows) (r ∷ [])
numbers-snoc i [] r = let e : i + 0 ≡ i = omega arith in rw e
numbers-snoc i (x ∷ rs) r =
    let e : i + suc (length rs) ≡ suc i + length rs = omega arith in
    rw e
    (both (λ a b. a ≡ b ++ numbers_from (suc i + length rs) (r ∷ [])) (row_held x)
    (λ _. rw (numbers-snoc (suc i) rs r))
    (λ _. numbers-snoc (suc i) rs r))

-- a CONFIRM takes out those that it releases
numbers-release : (ws : List ℕ) (i : ℕ) (rows : List Row) → without ws (numbers_from i rows) ≡ numbers_from i (release ws i rows)
unfolding filter
numbers-release ws i [] = refl
numbers-release ws i (r ∷ rs) =
    by (row_held r)
    (λ h. by (member i ws) (λ w. rw (h, w, numbers-release ws (suc i) rs)) (λ w. rw (h, w, h, numbers-release ws (suc i) rs)))
    (λ h. by (member i ws) (λ w. rw (h, w, numbers-release ws (suc i) rs)) (λ w. rw (h, w, h, numbers-release ws (suc i) rs)))

count-release : (ws : List ℕ) (i : ℕ) (rows : List Row) → count row_held (release ws i rows) ≤ count row_held rows
count-release ws i [] = omega arith
count-release ws i (r ∷ rs) =
    let k = count-release ws (suc i) rs in
    by (row_held r)
    (λ h. by (member i ws) (λ w. rw (h, w) (omega arith)) (λ w. rw (h, w, h) (omega arith)))
    (λ h. by (member i ws) (λ w. rw (h, w) (omega arith)) (λ w. rw (h, w, h) (omega arith)))

-- ---- a history in which events are dropped exactly while 256 are held

abbrev pub Sound : List HistoryEntry → Type 0
Sound [] = Unit {0}
Sound (hold! row ∷ h) = (length (held_after h) < events_max) × Sound h
Sound (drop! row ∷ h) = (length (held_after h) ≡ events_max) × Sound h
Sound (built! number rows ∷ h) = Sound h
Sound (confirmed! number ∷ h) = Sound h

sound_back : (later h : List HistoryEntry) → Sound (later ++ h) → Sound h
sound_back [] h s = s
sound_back (hold! row ∷ l) h s = sound_back l h s.1
sound_back (drop! row ∷ l) h s = sound_back l h s.1
sound_back (built! number rows ∷ l) h s = sound_back l h s
sound_back (confirmed! number ∷ l) h s = sound_back l h s

pub sound-drop : (i : ℕ) (later earlier : List HistoryEntry) → Sound (later ++ drop! i ∷ earlier) → length (held_after earlier) ≡ events_max
sound-drop i later earlier s = (sound_back later (drop! i ∷ earlier) s).0

pub sound-hold : (i : ℕ) (later earlier : List HistoryEntry) → Sound (later ++ hold! i ∷ earlier) → length (held_after earlier) < events_max
sound-hold i later earlier s = (sound_back later (hold! i ∷ earlier) s).0

-- ---- kept by every call

abbrev Awaited : BookWait → List HistoryEntry → Type 0
Awaited idle h = Unit {0}
Awaited (awaiting q t ws n k) h = rows_of k h ≡ ws

pub record Numbered (w : BookWait) (rows : List Row) (h : List HistoryEntry) : Type 0 where
  holds : held_after h ≡ numbers_from 0 rows
  most : count row_held rows ≤ events_max
  pub sound : Sound h
  awaited : Awaited w h

module _ (rows : List Row) (h : List HistoryEntry) where
  -- how many the history has
  counted : (w : BookWait) → Numbered w rows h → length (held_after h) ≡ count row_held rows
  counted w k = ap length k.holds ∙ length-numbers 0 rows

  numbered-held : (w : BookWait) (e : Event) → ltb (count row_held rows) events_max ≡ true → Numbered w rows h
      → Numbered w (rows ++ (held_row e ∷ [])) (hold! (length rows) ∷ h)
  numbered-held w e f k =
      let c = counted w k in
      let l = ltb-true (count row_held rows) events_max f in
      let z : 0 + length rows ≡ length rows = omega arith in
      let holds : held_after h ++ (length rows ∷ []) ≡ numbers_from 0 (rows ++ (held_row e ∷ [])) = rw (numbers-snoc, z, k.holds) in
      record {
        holds = holds;
        most =
            let n : length (numbers_from 0 (rows ++ (held_row e ∷ []))) ≡ count row_held (rows ++ (held_row e ∷ [])) = length-numbers 0 (rows ++ (held_row e ∷ [])) in
            let m = ap length holds in
            let a = length-append (held_after h) (length rows ∷ []) in
            omega arith;
        sound = (rw c l, k.sound);
        awaited = elim w as (λ v. Awaited v h → Awaited v (hold! (length rows) ∷ h)) [ idle ↦ λ a. tt | awaiting q t ws n j ↦ λ a. a ] k.awaited;
      }

  numbered-drop : (w : BookWait) (e : Event) → ltb (count row_held rows) events_max ≡ false → Numbered w rows h
      → Numbered w (rows ++ (dropped_row e ∷ [])) (drop! (length rows) ∷ h)
  numbered-drop w e f k =
      let c = counted w k in
      let l = ltb-false (count row_held rows) events_max f in
      let holds : held_after h ≡ numbers_from 0 (rows ++ (dropped_row e ∷ [])) = rw (numbers-snoc, append-nil) k.holds in
      let most = k.most in
      record {
        holds = holds;
        most =
            let n : length (numbers_from 0 (rows ++ (dropped_row e ∷ []))) ≡ count row_held (rows ++ (dropped_row e ∷ [])) = length-numbers 0 (rows ++ (dropped_row e ∷ [])) in
            let m = ap length holds in
            omega arith;
        sound = (omega arith, k.sound);
        awaited = elim w as (λ v. Awaited v h → Awaited v (drop! (length rows) ∷ h)) [ idle ↦ λ a. tt | awaiting q t ws n j ↦ λ a. a ] k.awaited;
      }

  numbered-idle : (w : BookWait) → Numbered w rows h → Numbered idle rows h
  numbered-idle w k = record { holds = k.holds; most = k.most; sound = k.sound; awaited = tt }

  numbered-built : (w : BookWait) (number : ℕ) (ws : List ℕ) → Numbered w rows h → Numbered idle rows (built! number ws ∷ h)
  numbered-built w number ws k = record { holds = k.holds; most = k.most; sound = k.sound; awaited = tt }

  numbered-awaiting : (w : BookWait) (q t number : ℕ) (ws : List ℕ) (n : ℕ) → Numbered w rows h → Numbered (awaiting q t ws n number) rows (built! number ws ∷ h)
  numbered-awaiting w q t number ws n k =
      record { holds = k.holds; most = k.most; sound = k.sound; awaited = rw (eq-eqb number number refl) }

  numbered-confirmed : (q t : ℕ) (ws : List ℕ) (n number : ℕ) → Numbered (awaiting q t ws n number) rows h
      → Numbered idle (release ws 0 rows) (confirmed! number ∷ h)
  numbered-confirmed q t ws n number k =
      record {
        holds = rw (k.awaited, k.holds, numbers-release ws 0 rows);
        most = omega (arith, k.most, count-release ws 0 rows);
        sound = k.sound;
        awaited = tt;
      }

-- K with the warning and the number of responses, which this does not depend on
abbrev NumberedOf : BookWait → List Row → Bool → ℕ → List HistoryEntry → Type 0
NumberedOf w rows warning built h = Numbered w rows h

numbered-steps : Steps NumberedOf
numbered-steps =
    record {
      held = λ w rows warning built h e f k. numbered-held rows h w e f k;
      dropped = λ w rows warning built h e f k. numbered-drop rows h w e f k;
      ended = λ w rows warning built h k. numbered-idle rows h w k;
      built = λ w rows warning built h ws k. numbered-built rows h w built ws k;
      awaited = λ w rows warning built h q t m p k. numbered-awaiting rows h w q t built (picks m p 0 rows) (length rows) k;
      is_confirmed = λ rows warning built h q t ws n j k. numbered-confirmed rows h q t ws n j k;
    }

abbrev pub NumberedBy : Book → List HistoryEntry → Type 0
NumberedBy b h = Numbered b.master.wait b.master.rows h

pub enter-numbered : (c : Call) (b : Book) (h : List HistoryEntry) → NumberedBy b h → NumberedBy (B.enter c b).book ((B.enter c b).entries ++ h)
enter-numbered c b h k = enter-on NumberedOf numbered-steps c b h k

pub opened-numbered : (u : Setup) → NumberedBy (B.book_of u) []
unfolding B.book_of
opened-numbered u = record { holds = refl; most = omega arith; sound = tt; awaited = tt }
