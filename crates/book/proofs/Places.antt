-- Each raised event is in one place, and the history says how it came there.
-- Assumes nothing.
use Prim.Native.Nat.{ℕ, zero, suc, ◌+◌, ◌<◌}
use mathlib.Core.Path.{◌≡◌, refl, sym, ap, ◌∙◌}
use mathlib.Core.Logic.{◌⊎◌, inl, inr}
use mathlib.Core.Bool.{Bool, true, false, cond}
use mathlib.Core.List.Memᴰ
use mathlib.Core.List.{List, [], ◌∷◌, ◌++◌}
use native.Mathlib.Omega.{arith}
use lib.ListN.{length, length-append, get_or-append}
use lib.Seq.{get_or_at, append_snoc}
use lib.Dec.{eqb, ltb}
use borrow.Author.Tests.{eqb-true, ltb-true, ltb-false}
use Rattle.laws.specs.Lists.{member}
use Rattle.events.specs.declared.Event.{Event}
use Rattle.events.specs.declared.Classes.{Classes}
use Rattle.events.specs.declared.Space.{Space}
use Rattle.events.specs.Placing.{is_asked, fits, space_after}
use Rattle.outstation.specs.Setup.{Setup}
use Rattle.outstation.specs.Step.{Call}
use Rattle.book.specs.Book as B
use Rattle.book.specs.Book.{Book, Row, Mark, held, released, dropped, is_held, row_held, BookWait, idle, awaiting, picks, release}
use Rattle.book.specs.Book.{hold!, drop!, built!, confirmed!, HistoryEntry}
use Rattle.book.specs.Demand3.{Has, no_row, mark_at, DroppedAt, HeldAt, ReleasedBy, Placed}
use Rattle.laws.proofs.Choices.{by}
use Rattle.book.proofs.Rows.{held_row, dropped_row, picks-below}
use Rattle.book.proofs.Walk.{Steps, enter-on}
use Rattle.book.proofs.Numbers.{Sound, sound-drop, sound-hold}

-- ---- marks by place
is-held : (m : Mark) → is_held m ≡ true → m ≡ held
is-held held e = refl
is-held released e = cc
is-held dropped e = cc

-- the rows that a READ picks are held; pre are the rows before row i
picks_held : (m : Classes) (k : Space) (pre : List Row) (j i : ℕ) (rows : List Row) → length pre ≡ i
    → member j (picks m k i rows) ≡ true → mark_at (pre ++ rows) j ≡ held
picks_held m k pre j i [] e = λ h. cc
picks_held m k pre j i (r ∷ rs) e =
    let l : length (pre ++ (r ∷ [])) ≡ suc i = omega (arith, length-append pre (r ∷ [])) in
    by (row_held r)
    (λ t. by (is_asked m r.event.class)
    (λ a. by (fits k r.event)
    (λ f. rw (t, a, f) (λ h. by (eqb j i)
    (λ q. rw (eqb-true j i q) (ap (λ (x : Row). x.mark) (get_or_at pre r rs no_row i e) ∙ is-held r.mark t))
    (λ q. rw append_snoc at (picks_held m (space_after k r.event) (pre ++ (r ∷ [])) j (suc i) rs l (rw q at h)))))
    (λ f. rw (t, a, f) (λ h. cc)))
    (λ a. rw (t, a) (rw append_snoc at (picks_held m k (pre ++ (r ∷ [])) j (suc i) rs l))))
    (λ t. rw t (rw append_snoc at (picks_held m k (pre ++ (r ∷ [])) j (suc i) rs l)))

length-release : (ws : List ℕ) (i : ℕ) (rows : List Row) → length (release ws i rows) ≡ length rows
length-release ws i [] = refl
length-release ws i (r ∷ rs) = ap suc (length-release ws (suc i) rs)

mark-release : (ws : List ℕ) (i j : ℕ) (rows : List Row) → j < length rows
    → mark_at (release ws i rows) j ≡ cond (member (i + j) ws) released (mark_at rows j)
mark-release ws i j [] h = let z : ⊥ = omega arith in absurd z
mark-release ws i zero (r ∷ rs) h = let e : i + 0 ≡ i = omega arith in rw e
mark-release ws i (suc j) (r ∷ rs) h = let e : i + suc j ≡ suc i + j = omega arith in rw e (mark-release ws (suc i) j rs (omega arith))

mark-snoc : (rows : List Row) (r : Row) (i : ℕ) → i < length rows → mark_at (rows ++ (r ∷ [])) i ≡ mark_at rows i
mark-snoc rows r i h = ap (λ (x : Row). x.mark) (get_or-append rows (r ∷ []) no_row i h)

mark-last : (rows : List Row) (r : Row) (i : ℕ) → length rows ≡ i → mark_at (rows ++ (r ∷ [])) i ≡ r.mark
mark-last rows r i h = ap (λ (x : Row). x.mark) (get_or_at rows r [] no_row i h)

-- ---- the history of each place

-- event i was carried by a response that was confirmed, in any order
record Freed (h : List HistoryEntry) (i : ℕ) : Type 0 where
  number : ℕ
  rows : List ℕ
  built : Has (built! number rows) h
  carried : member i rows ≡ true
  is_confirmed : Has (confirmed! number) h

record Awaits (rows : List Row) (ws : List ℕ) (k : ℕ) (h : List HistoryEntry) : Type 0 where
  built : Has (built! k ws) h
  only : (vs : List ℕ) → Has (built! k vs) h → vs ≡ ws
  below : (i : ℕ) → member i ws ≡ true → i < length rows
  holds : (i : ℕ) → member i ws ≡ true → mark_at rows i ≡ held

abbrev Awaited : BookWait → List Row → List HistoryEntry → Type 0
Awaited idle rows h = Unit {0}
Awaited (awaiting q t ws n k) rows h = Awaits rows ws k h

pub record Placing (w : BookWait) (rows : List Row) (built : ℕ) (h : List HistoryEntry) : Type 0 where
  drop_at : (i : ℕ) → i < length rows → mark_at rows i ≡ dropped → Has (drop! i) h
  drop_of : (i : ℕ) → Has (drop! i) h → (i < length rows) × (mark_at rows i ≡ dropped)
  release_at : (i : ℕ) → i < length rows → mark_at rows i ≡ released → ReleasedBy h i
  release_of : (i : ℕ) → Freed h i → (i < length rows) × (mark_at rows i ≡ released)
  hold_at : (i : ℕ) → i < length rows → (mark_at rows i ≡ dropped → ⊥) → Has (hold! i) h
  hold_of : (i : ℕ) → Has (hold! i) h → (i < length rows) × (mark_at rows i ≡ dropped → ⊥)
  numbers : (k : ℕ) (ws : List ℕ) → Has (built! k ws) h → k < built
  is_confirmed : (k : ℕ) → Has (confirmed! k) h → k < built
  awaited : Awaited w rows h

-- an entry in a longer history, and one that is not its newest
older : (x y : HistoryEntry) (h : List HistoryEntry) → (y ≡ x → ⊥) → Has y (x ∷ h) → Has y h
older x y h n m = elim (Memᴰ.cases_cons m) [ inl e ↦ absurd (n e) | inr m' ↦ m' ]

released-on : (x : HistoryEntry) (h : List HistoryEntry) (i : ℕ) → ReleasedBy h i → ReleasedBy (x ∷ h) i
released-on x h i r =
    record {
      later = x ∷ r.later;
      between = r.between;
      earlier = r.earlier;
      number = r.number;
      rows = r.rows;
      split = ap (λ z. x ∷ z) r.split;
      carried = r.carried;
    }

-- one that neither built nor confirmed a response releases nothing
freed-back : (x : HistoryEntry) (h : List HistoryEntry) (i : ℕ) → ((k : ℕ) (ws : List ℕ) → built! k ws ≡ x → ⊥)
    → ((k : ℕ) → confirmed! k ≡ x → ⊥) → Freed (x ∷ h) i → Freed h i
freed-back x h i nb nc r =
    record {
      number = r.number;
      rows = r.rows;
      carried = r.carried;
      built = older x (built! r.number r.rows) h (nb r.number r.rows) r.built;
      is_confirmed = older x (confirmed! r.number) h (nc r.number) r.is_confirmed;
    }

-- where an entry stands in a history
record Found (x : HistoryEntry) (h : List HistoryEntry) : Type 0 where
  later : List HistoryEntry
  earlier : List HistoryEntry
  split : h ≡ later ++ x ∷ earlier

found : (x : HistoryEntry) (h : List HistoryEntry) → Has x h → Found x h
found x [] m = absurd (Memᴰ.not-nil m)
found x (y ∷ h) m =
    elim (Memᴰ.cases_cons m) [
      | inl e ↦ record { later = []; earlier = h; split = ap (λ z. z ∷ h) (sym e) }
      | inr m' ↦ (let f = found x h m' in record { later = y ∷ f.later; earlier = f.earlier; split = ap (λ z. y ∷ z) f.split })
    ]

has-at : (x : HistoryEntry) (h later earlier : List HistoryEntry) → h ≡ later ++ x ∷ earlier → Has x h
has-at x h later earlier e = rw e (Memᴰ.append_right later (Memᴰ.head refl))

-- below or at the end
at-end : (i n : ℕ) → i < n + 1 → (i < n) ⊎ (n ≡ i)
at-end i n h = by (ltb i n) (λ t. inl (ltb-true i n t)) (λ t. let u = ltb-false i n t in inr (omega arith))

len : (rows : List Row) (r : Row) → length (rows ++ (r ∷ [])) ≡ length rows + 1
len rows r = length-append rows (r ∷ [])

module _ (rows : List Row) (built : ℕ) (h : List HistoryEntry) where
  -- one more row, and a newest entry that built no response
  awaited-snoc : (w : BookWait) (r : Row) (x : HistoryEntry) → ((k : ℕ) (ws : List ℕ) → built! k ws ≡ x → ⊥) → Awaited w rows h
      → Awaited w (rows ++ (r ∷ [])) (x ∷ h)
  awaited-snoc idle r x nb a = tt
  awaited-snoc (awaiting q t ws n k) r x nb a =
      record {
        built = Memᴰ.tail a.built;
        only = λ vs m. a.only vs (older x (built! k vs) h (nb k vs) m);
        below = λ i m. omega (arith, a.below i m, len rows r);
        holds = λ i m. mark-snoc rows r i (a.below i m) ∙ a.holds i m;
      }

  -- what was known of the rows before the last
  module _ (r : Row) (i : ℕ) where
    mark_on : (m : Mark) → (i < length rows) × (mark_at rows i ≡ m) → (i < length (rows ++ (r ∷ []))) × (mark_at (rows ++ (r ∷ [])) i ≡ m)
    mark_on m d = (omega (arith, d.0, len rows r), mark-snoc rows r i d.0 ∙ d.1)

    other-on : (m : Mark) → (i < length rows) × (mark_at rows i ≡ m → ⊥) → (i < length (rows ++ (r ∷ []))) × (mark_at (rows ++ (r ∷ [])) i ≡ m → ⊥)
    other-on m d = (omega (arith, d.0, len rows r), λ e. d.1 (sym (mark-snoc rows r i d.0) ∙ e))

    -- a mark of the longer list that is not the last row's
    mark-back : (m : Mark) → (r.mark ≡ m → ⊥) → i < length (rows ++ (r ∷ [])) → mark_at (rows ++ (r ∷ [])) i ≡ m → (i < length rows) × (mark_at rows i ≡ m)
    mark-back m n l e =
        elim (at-end i (length rows) (omega (arith, len rows r))) [
          | inl a ↦ (a, sym (mark-snoc rows r i a) ∙ e)
          | inr a ↦ absurd (n (sym (mark-last rows r i a) ∙ e))
        ]

  placing-held : (w : BookWait) (e : Event) → Placing w rows built h → Placing w (rows ++ (held_row e ∷ [])) built (hold! (length rows) ∷ h)
  placing-held w e p =
      let x = hold! (length rows) in
      let r = held_row e in
      let nb : (k : ℕ) (ws : List ℕ) → built! k ws ≡ x → ⊥ = λ k ws q. (let y : ◌≡◌ {A = ℕ} 0 1 = cc in omega arith) in
      let nc : (k : ℕ) → confirmed! k ≡ x → ⊥ = λ k q. (let y : ◌≡◌ {A = ℕ} 0 1 = cc in omega arith) in
      record {
        drop_at = λ i l m. let d = mark-back r i dropped (λ q. let y : ◌≡◌ {A = ℕ} 0 1 = cc in omega arith) l m in Memᴰ.tail (p.drop_at i d.0 d.1);
        drop_of = λ i m. mark_on r i dropped (p.drop_of i (older x (drop! i) h (λ q. let y : ◌≡◌ {A = ℕ} 0 1 = cc in omega arith) m));
        release_at = λ i l m.
            let d = mark-back r i released (λ q. let y : ◌≡◌ {A = ℕ} 0 1 = cc in omega arith) l m in released-on x h i (p.release_at i d.0 d.1);
        release_of = λ i m. mark_on r i released (p.release_of i (freed-back x h i nb nc m));
        hold_at = λ i l m. elim (at-end i (length rows) (omega (arith, len rows r))) [
          | inl a ↦ Memᴰ.tail (p.hold_at i a (λ q. m (mark-snoc rows r i a ∙ q)))
          | inr a ↦ Memᴰ.head (ap hold! (sym a))
        ];
        hold_of = λ i m. elim (Memᴰ.cases_cons m) [
          | inl q ↦ (let a : length rows ≡ i = cc in (
            omega (arith, len rows r),
            λ d. let z = sym (mark-last rows r i a) ∙ d in let y : ◌≡◌ {A = ℕ} 0 1 = cc in omega arith,
          ))
          | inr m' ↦ other-on r i dropped (p.hold_of i m')
        ];
        numbers = λ k ws m. p.numbers k ws (older x (built! k ws) h (nb k ws) m);
        is_confirmed = λ k m. p.is_confirmed k (older x (confirmed! k) h (nc k) m);
        awaited = awaited-snoc w r x nb p.awaited;
      }

  placing-drop : (w : BookWait) (e : Event) → Placing w rows built h → Placing w (rows ++ (dropped_row e ∷ [])) built (drop! (length rows) ∷ h)
  placing-drop w e p =
      let x = drop! (length rows) in
      let r = dropped_row e in
      let nb : (k : ℕ) (ws : List ℕ) → built! k ws ≡ x → ⊥ = λ k ws q. (let y : ◌≡◌ {A = ℕ} 0 1 = cc in omega arith) in
      let nc : (k : ℕ) → confirmed! k ≡ x → ⊥ = λ k q. (let y : ◌≡◌ {A = ℕ} 0 1 = cc in omega arith) in
      record {
        drop_at = λ i l m. elim (at-end i (length rows) (omega (arith, len rows r))) [
          | inl a ↦ Memᴰ.tail (p.drop_at i a (sym (mark-snoc rows r i a) ∙ m))
          | inr a ↦ Memᴰ.head (ap drop! (sym a))
        ];
        drop_of = λ i m. elim (Memᴰ.cases_cons m) [
          | inl q ↦ (let a : length rows ≡ i = cc in (omega (arith, len rows r), mark-last rows r i a))
          | inr m' ↦ mark_on r i dropped (p.drop_of i m')
        ];
        release_at = λ i l m.
            let d = mark-back r i released (λ q. let y : ◌≡◌ {A = ℕ} 0 1 = cc in omega arith) l m in released-on x h i (p.release_at i d.0 d.1);
        release_of = λ i m. mark_on r i released (p.release_of i (freed-back x h i nb nc m));
        hold_at = λ i l m. elim (at-end i (length rows) (omega (arith, len rows r))) [
          | inl a ↦ Memᴰ.tail (p.hold_at i a (λ q. m (mark-snoc rows r i a ∙ q)))
          | inr a ↦ absurd (m (mark-last rows r i a))
        ];
        hold_of = λ i m. other-on r i dropped (p.hold_of i (older x (hold! i) h (λ q. let y : ◌≡◌ {A = ℕ} 0 1 = cc in omega arith) m));
        numbers = λ k ws m. p.numbers k ws (older x (built! k ws) h (nb k ws) m);
        is_confirmed = λ k m. p.is_confirmed k (older x (confirmed! k) h (nc k) m);
        awaited = awaited-snoc w r x nb p.awaited;
      }

  placing-idle : (w : BookWait) → Placing w rows built h → Placing idle rows built h
  placing-idle w p =
      record {
        drop_at = p.drop_at;
        drop_of = p.drop_of;
        release_at = p.release_at;
        release_of = p.release_of;
        hold_at = p.hold_at;
        hold_of = p.hold_of;
        numbers = p.numbers;
        is_confirmed = p.is_confirmed;
        awaited = tt;
      }

  -- a newly built response
  placing-built : (w : BookWait) (ws : List ℕ) → Placing w rows built h → Placing idle rows (suc built) (built! built ws ∷ h)
  placing-built w ws p =
      let x = built! built ws in
      let nc : (k : ℕ) → confirmed! k ≡ x → ⊥ = λ k q. (let y : ◌≡◌ {A = ℕ} 0 1 = cc in omega arith) in
      record {
        drop_at = λ i l m. Memᴰ.tail (p.drop_at i l m);
        drop_of = λ i m. p.drop_of i (older x (drop! i) h (λ q. let y : ◌≡◌ {A = ℕ} 0 1 = cc in omega arith) m);
        release_at = λ i l m. released-on x h i (p.release_at i l m);
        release_of = λ i r.
            let c : Has (confirmed! r.number) h = older x (confirmed! r.number) h (nc r.number) r.is_confirmed in
            elim (Memᴰ.cases_cons r.built) [
              | inl q ↦ absurd (let l = p.is_confirmed r.number c in let s : r.number ≡ built = cc in omega arith)
              | inr m ↦ p.release_of i (record { number = r.number; rows = r.rows; built = m; carried = r.carried; is_confirmed = c })
            ];
        hold_at = λ i l m. Memᴰ.tail (p.hold_at i l m);
        hold_of = λ i m. p.hold_of i (older x (hold! i) h (λ q. let y : ◌≡◌ {A = ℕ} 0 1 = cc in omega arith) m);
        numbers = λ k vs m. elim (Memᴰ.cases_cons m) [ inl q ↦ (let s : k ≡ built = cc in omega arith) | inr m' ↦ omega (arith, p.numbers k vs m') ];
        is_confirmed = λ k m. omega (arith, p.is_confirmed k (older x (confirmed! k) h (nc k) m));
        awaited = tt;
      }

  -- one that awaits its confirmation
  placing-awaiting : (w : BookWait) (q t : ℕ) (ws : List ℕ) (n : ℕ) → ((i : ℕ) → member i ws ≡ true → i < length rows)
      → ((i : ℕ) → member i ws ≡ true → mark_at rows i ≡ held)
      → Placing w rows built h → Placing (awaiting q t ws n built) rows (suc built) (built! built ws ∷ h)
  placing-awaiting w q t ws n below holds p =
      let r = placing-built w ws p in
      record {
        drop_at = r.drop_at;
        drop_of = r.drop_of;
        release_at = r.release_at;
        release_of = r.release_of;
        hold_at = r.hold_at;
        hold_of = r.hold_of;
        numbers = r.numbers;
        is_confirmed = r.is_confirmed;
        awaited = record {
          built = Memᴰ.head refl;
          only = λ vs m. elim (Memᴰ.cases_cons m) [ inl s ↦ cc | inr m' ↦ absurd (let l = p.numbers built vs m' in omega arith) ];
          below = below;
          holds = holds;
        };
      }

-- a CONFIRM
module _ (rows : List Row) (built : ℕ) (h : List HistoryEntry) (q t : ℕ) (ws : List ℕ) (n k : ℕ) (p : Placing (awaiting q t ws n k) rows built h) where
  mark-in : (i : ℕ) → i < length rows → member i ws ≡ true → mark_at (release ws 0 rows) i ≡ released
  mark-in i l m = let e : 0 + i ≡ i = omega arith in mark-release ws 0 i rows l ∙ rw (e, m)

  mark-out : (i : ℕ) → i < length rows → member i ws ≡ false → mark_at (release ws 0 rows) i ≡ mark_at rows i
  mark-out i l m = let e : 0 + i ≡ i = omega arith in mark-release ws 0 i rows l ∙ rw (e, m)

  -- it releases what its response carried
  release-here : (i : ℕ) → member i ws ≡ true → ReleasedBy (confirmed! k ∷ h) i
  release-here i c =
      let f = found (built! k ws) h p.awaited.built in
      record {
        later = [];
        between = f.later;
        earlier = f.earlier;
        number = k;
        rows = ws;
        split = ap (λ z. confirmed! k ∷ z) f.split;
        carried = c;
      }

  no-built : (j : ℕ) (vs : List ℕ) → built! j vs ≡ confirmed! k → ⊥
  no-built j vs s = let y : ◌≡◌ {A = ℕ} 0 1 = cc in omega arith

  release-of : (i : ℕ) → Freed (confirmed! k ∷ h) i → (i < length (release ws 0 rows)) × (mark_at (release ws 0 rows) i ≡ released)
  release-of i r =
      let same_length = length-release ws 0 rows in
      let b = older (confirmed! k) (built! r.number r.rows) h (no-built r.number r.rows) r.built in
      elim (Memᴰ.cases_cons r.is_confirmed) [
        | inl s ↦ (let e : r.number ≡ k = cc in
            let v : r.rows ≡ ws = p.awaited.only r.rows (rw e at b) in
            let c : member i ws ≡ true = rw v at r.carried in
            let l = p.awaited.below i c in
            (omega arith, mark-in i l c))
        | inr m ↦ (let d = p.release_of i (record { number = r.number; rows = r.rows; built = b; carried = r.carried; is_confirmed = m }) in
            (omega (arith, d.0), by (member i ws) (λ c. mark-in i d.0 c) (λ c. mark-out i d.0 c ∙ d.1)))
      ]

  -- and no other mark changes
  held_place : (i : ℕ) → i < length rows → (mark_at (release ws 0 rows) i ≡ dropped → ⊥) → Has (hold! i) h
  held_place i l m =
      by (member i ws)
      (λ c. p.hold_at i l (λ d. let z = sym (p.awaited.holds i c) ∙ d in let y : ◌≡◌ {A = ℕ} 0 1 = cc in omega arith))
      (λ c. p.hold_at i l (λ d. m (mark-out i l c ∙ d)))

  hold-of : (i : ℕ) → (i < length rows) × (mark_at rows i ≡ dropped → ⊥)
      → (i < length (release ws 0 rows)) × (mark_at (release ws 0 rows) i ≡ dropped → ⊥)
  hold-of i d = (
    omega (arith, length-release ws 0 rows, d.0),
    λ e. by (member i ws)
        (λ c. let z = sym (mark-in i d.0 c) ∙ e in let y : ◌≡◌ {A = ℕ} 0 1 = cc in omega arith)
        (λ c. d.1 (sym (mark-out i d.0 c) ∙ e)),
  )

  placing-confirmed : Placing idle (release ws 0 rows) built (confirmed! k ∷ h)
  placing-confirmed =
      let x = confirmed! k in
      let same_length = length-release ws 0 rows in
      record {
        drop_at = λ i l m. let l' : i < length rows = omega arith in
            by (member i ws)
            (λ c. absurd (let z = sym (mark-in i l' c) ∙ m in let y : ◌≡◌ {A = ℕ} 0 1 = cc in omega arith))
            (λ c. Memᴰ.tail (p.drop_at i l' (sym (mark-out i l' c) ∙ m)));
        drop_of = λ i m.
            let d = p.drop_of i (older x (drop! i) h (λ s. let y : ◌≡◌ {A = ℕ} 0 1 = cc in omega arith) m) in (
              omega (arith, d.0),
              by (member i ws)
                  (λ c. absurd (let z = sym (p.awaited.holds i c) ∙ d.1 in let y : ◌≡◌ {A = ℕ} 0 1 = cc in omega arith))
                  (λ c. mark-out i d.0 c ∙ d.1),
            );
        release_at = λ i l m. let l' : i < length rows = omega arith in
            by (member i ws) (release-here i) (λ c. released-on x h i (p.release_at i l' (sym (mark-out i l' c) ∙ m)));
        release_of = release-of;
        hold_at = λ i l m. Memᴰ.tail (held_place i (omega arith) m);
        hold_of = λ i m. hold-of i (p.hold_of i (older x (hold! i) h (λ s. let y : ◌≡◌ {A = ℕ} 0 1 = cc in omega arith) m));
        numbers = λ j vs m. p.numbers j vs (older x (built! j vs) h (no-built j vs) m);
        is_confirmed = λ j m. elim (Memᴰ.cases_cons m) [
          | inl s ↦ (let e : j ≡ k = cc in omega (arith, p.numbers k ws p.awaited.built))
          | inr m' ↦ p.is_confirmed j m'
        ];
        awaited = tt;
      }

-- K with the warning, which the places do not depend on
abbrev PlacingOf : BookWait → List Row → Bool → ℕ → List HistoryEntry → Type 0
PlacingOf w rows warning built h = Placing w rows built h

placing-steps : Steps PlacingOf
placing-steps =
    record {
      held = λ w rows warning built h e f k. placing-held rows built h w e k;
      dropped = λ w rows warning built h e f k. placing-drop rows built h w e k;
      ended = λ w rows warning built h k. placing-idle rows built h w k;
      built = λ w rows warning built h ws k. placing-built rows built h w ws k;
      awaited = λ w rows warning built h q t m p k.
          placing-awaiting rows built h w q t (picks m p 0 rows) (length rows)
          (λ i c. omega (arith, picks-below m p i 0 rows c))
          (λ i c. picks_held m p [] i 0 rows refl c) k;
      is_confirmed = λ rows warning built h q t ws n j k. placing-confirmed rows built h q t ws n j k;
    }

abbrev pub PlacingBy : Book → List HistoryEntry → Type 0
PlacingBy b h = Placing b.master.wait b.master.rows b.master.built h

pub enter-placing : (c : Call) (b : Book) (h : List HistoryEntry) → PlacingBy b h → PlacingBy (B.enter c b).book ((B.enter c b).entries ++ h)
enter-placing c b h k = enter-on PlacingOf placing-steps c b h k

pub opened-placing : (u : Setup) → PlacingBy (B.book_of u) []
unfolding B.book_of
opened-placing u =
    record {
      drop_at = λ i l m. let z : ⊥ = omega arith in absurd z;
      drop_of = λ i m. absurd (Memᴰ.not-nil m);
      release_at = λ i l m. let z : ⊥ = omega arith in absurd z;
      release_of = λ i r. absurd (Memᴰ.not-nil r.built);
      hold_at = λ i l m. let z : ⊥ = omega arith in absurd z;
      hold_of = λ i m. absurd (Memᴰ.not-nil m);
      numbers = λ k ws m. absurd (Memᴰ.not-nil m);
      is_confirmed = λ k m. absurd (Memᴰ.not-nil m);
      awaited = tt;
    }

-- carried and confirmed in that order, so in any
freed : (h : List HistoryEntry) (i : ℕ) → ReleasedBy h i → Freed h i
freed h i r =
    record {
      number = r.number;
      rows = r.rows;
      carried = r.carried;
      built = rw r.split (Memᴰ.append_right r.later (Memᴰ.tail (Memᴰ.append_right r.between (Memᴰ.head refl))));
      is_confirmed = has-at (confirmed! r.number) h r.later (r.between ++ built! r.number r.rows ∷ r.earlier) r.split;
    }

-- a mark that is neither of the others
else-held : (m : Mark) → (m ≡ dropped → ⊥) → (m ≡ released → ⊥) → m ≡ held
else-held held d r = refl
else-held released d r = absurd (r refl)
else-held dropped d r = absurd (d refl)

module _ (w : BookWait) (rows : List Row) (built : ℕ) (h : List HistoryEntry) (p : Placing w rows built h) (s : Sound h) (i : ℕ) (l : i < length rows) where
  dropped-at : mark_at rows i ≡ dropped → DroppedAt h i
  dropped-at m =
      let f = found (drop! i) h (p.drop_at i l m) in
      record { later = f.later; earlier = f.earlier; split = f.split; full = sound-drop i f.later f.earlier (rw f.split at s) }

  held_at : mark_at rows i ≡ held → HeldAt h i
  held_at m =
      let f = found (hold! i) h (p.hold_at i l (λ d. let z = sym m ∙ d in let y : ◌≡◌ {A = ℕ} 0 1 = cc in omega arith)) in
      record { later = f.later; earlier = f.earlier; split = f.split; room = sound-hold i f.later f.earlier (rw f.split at s) }

  pub placed : Placed rows h i
  placed =
      record {
        dropped = (dropped-at, λ d. (p.drop_of i (has-at (drop! i) h d.later d.earlier d.split)).1);
        released = (p.release_at i l, λ r. (p.release_of i (freed h i r)).1);
        held = (
          λ m. (held_at m, λ r. let z = sym m ∙ (p.release_of i (freed h i r)).1 in let y : ◌≡◌ {A = ℕ} 0 1 = cc in omega arith),
          λ (a, n). else-held (mark_at rows i) (p.hold_of i (has-at (hold! i) h a.later a.earlier a.split)).1 (λ m. n (p.release_at i l m)),
        );
      }
