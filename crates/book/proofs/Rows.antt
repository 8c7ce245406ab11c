-- The held rows of a book as the outstation holds them, and what each kind of call does to them.
-- Assumes nothing.
use Prim.Native.Nat.{ℕ, suc, ◌+◌, ◌≤◌, ◌<◌}
use mathlib.Core.Path.{◌≡◌, refl, sym, ap, ◌∙◌}
use mathlib.Core.Bool.{true, false, not, cond, ◌&&◌, or-true, or-false}
use mathlib.Core.List.{List, [], ◌∷◌, ◌++◌, map}
use native.Mathlib.Omega.{arith}
use native.Mathlib.Nat.{le_refl}
use lib.ListN.{length, length-append}
use lib.Seq.{append_snoc, get_or_at}
use lib.Dec.{eqb}
use borrow.Author.Tests.{eq-eqb, ne_eqb, eqb-true}
use Rattle.laws.specs.Lists.{filter, some, count, is_nil, member}
use Rattle.events.specs.declared.Event.{Event}
use Rattle.events.specs.declared.Classes.{Classes}
use Rattle.events.specs.declared.Space.{Space}
use Rattle.events.specs.declared.Held.{Held}
use Rattle.events.specs.Placing.{is_asked, fits, space_after}
use Rattle.events.specs.BufferView.{marked, carry, is_carried, not_carried}
use Rattle.event_objects.specs.Events.{events_bytes, carried_bytes, carried_objects, carried_events}
use Rattle.book.specs.Book.{Row, held, dropped, row_held, row_dropped, row_event, picks, release, drop_since}
use Rattle.book.specs.Demand3.{event_at, no_row}
use Rattle.laws.proofs.Choices.{by, both, split, cond-eq, is_nil-map, some-filter, some-drop-snoc}

-- the rows marked held, from row i on, each with the mark that its number is among ws
abbrev pub collect : List ℕ → ℕ → List Row → List Held
collect ws i [] = []
collect ws i (r ∷ rs) =
    cond (row_held r) (record { event = r.event; carried = member i ws } ∷ collect ws (suc i) rs) (collect ws (suc i) rs)

pub length-collect : (ws : List ℕ) (i : ℕ) (rows : List Row) → length (collect ws i rows) ≡ count row_held rows
length-collect ws i [] = refl
length-collect ws i (r ∷ rs) = cond-eq length (row_held r) (ap suc (length-collect ws (suc i) rs)) (length-collect ws (suc i) rs)

-- the events alone
pub events-collect : (ws : List ℕ) (i : ℕ) (rows : List Row)
    → map (λ (x : Held). x.event) (collect ws i rows) ≡ map row_event (filter row_held rows)
unfolding filter
events-collect ws i [] = refl
events-collect ws i (r ∷ rs) =
    both (λ x y. map (λ (x : Held). x.event) x ≡ map row_event y) (row_held r)
    (λ _. rw (events-collect ws (suc i) rs))
    (λ _. events-collect ws (suc i) rs)

pub collect-snoc : (ws : List ℕ) (i : ℕ) (rows : List Row) (r : Row)
    → collect ws i (rows ++ (r ∷ [])) ≡ collect ws i rows ++ collect ws (i + length rows) (r ∷ [])
collect-snoc ws i [] r = let e : i + 0 ≡ i = omega arith in rw e
collect-snoc ws i (x ∷ rs) r =
    let e : i + suc (length rs) ≡ suc i + length rs = omega arith in
    rw e
    (both (λ a b. a ≡ b ++ collect ws (suc i + length rs) (r ∷ [])) (row_held x)
    (λ _. rw (collect-snoc ws (suc i) rs r))
    (λ _. collect-snoc ws (suc i) rs r))

-- with the marks taken away
pub collect-none : (ws : List ℕ) (i : ℕ) (rows : List Row) → map (marked false) (collect ws i rows) ≡ collect [] i rows
collect-none ws i [] = refl
collect-none ws i (r ∷ rs) = cond-eq (map (marked false)) (row_held r) (rw (collect-none ws (suc i) rs)) (collect-none ws (suc i) rs)

-- a number below the first row's number marks nothing
pub collect-skip : (w : ℕ) (ws : List ℕ) (i : ℕ) (rows : List Row) → w < i → collect (w ∷ ws) i rows ≡ collect ws i rows
collect-skip w ws i [] h = refl
collect-skip w ws i (r ∷ rs) h = rw (ne_eqb i w (λ e. omega arith), collect-skip w ws (suc i) rs (omega arith))

-- ---- a READ

pub picks-above : (m : Classes) (k : Space) (j i : ℕ) (rows : List Row) → j < i → member j (picks m k i rows) ≡ false
picks-above m k j i [] h = refl
picks-above m k j i (r ∷ rs) h =
    split (λ l. member j l ≡ false) (not (row_held r && is_asked m r.event.class))
    (λ _. picks-above m k j (suc i) rs (omega arith))
    (λ _. split (λ l. member j l ≡ false) (not (fits k r.event))
    (λ _. refl)
    (λ _. rw (ne_eqb j i (λ e. omega arith)) (picks-above m (space_after k r.event) j (suc i) rs (omega arith))))

pub picks-below : (m : Classes) (k : Space) (j i : ℕ) (rows : List Row) → member j (picks m k i rows) ≡ true → j < i + length rows
picks-below m k j i [] = λ h. let z : ◌≡◌ {A = ℕ} 0 1 = cc in omega arith
picks-below m k j i (r ∷ rs) =
    split (λ l. member j l ≡ true → j < i + suc (length rs)) (not (row_held r && is_asked m r.event.class))
    (λ _ h. omega (arith, picks-below m k j (suc i) rs h))
    (λ _. split (λ l. member j l ≡ true → j < i + suc (length rs)) (not (fits k r.event))
    (λ _ h. let z : ◌≡◌ {A = ℕ} 0 1 = cc in omega arith)
    (λ _ h. by (eqb j i)
    (λ e. omega (arith, eqb-true j i e))
    (λ e. omega (arith, picks-below m (space_after k r.event) j (suc i) rs (rw e at h)))))

-- what the outstation carries is what the picks collect, once it is that of what they are
by-picks : (m : Classes) (k : Space) (i : ℕ) (rows : List Row) (ws : List ℕ) → picks m k i rows ≡ ws
    → carry m k (collect [] i rows) ≡ collect ws i rows
    → carry m k (collect [] i rows) ≡ collect (picks m k i rows) i rows
by-picks m k i rows ws picked carried = carried ∙ ap (λ (l : List ℕ). collect l i rows) (sym picked)

-- the marks that the outstation sets are the book's picks
pub carry-collect : (m : Classes) (k : Space) (i : ℕ) (rows : List Row) → carry m k (collect [] i rows) ≡ collect (picks m k i rows) i rows
unfolding carry
carry-collect m k i [] = refl
carry-collect m k i (r ∷ rs) =
    by (row_held r)
    (λ h. by (is_asked m r.event.class)
    (λ a. by (fits k r.event)
    (λ f.
    let rest = picks m (space_after k r.event) (suc i) rs in
    let skip = collect-skip i rest (suc i) rs (le_refl _) in
    by-picks m k i (r ∷ rs) (i ∷ rest) (rw (h, a, f)) (rw (h, a, f, eq-eqb i i refl, skip, carry-collect m (space_after k r.event) (suc i) rs)))
    (λ f. by-picks m k i (r ∷ rs) [] (rw (h, a, f)) (rw (h, a, f))))
    (λ a. by-picks m k i (r ∷ rs) (picks m k (suc i) rs) (rw (h, a)) (rw (h, a, picks-above m k i (suc i) rs (le_refl _), carry-collect m k (suc i) rs))))
    (λ h. by-picks m k i (r ∷ rs) (picks m k (suc i) rs) (rw h) (rw (h, carry-collect m k (suc i) rs)))

-- the events that a response carries, and their bytes
abbrev pub carried_in : List Held → List Event
carried_in hs = map (λ (h : Held). h.event) (filter is_carried hs)

pub carried-bytes : (hs : List Held) → carried_bytes hs ≡ events_bytes (carried_in hs)
unfolding carried_bytes carried_objects carried_events events_bytes
carried-bytes hs = refl

-- where no marks stand nothing is carried
carried_none : (i : ℕ) (rows : List Row) → carried_in (collect [] i rows) ≡ []
unfolding filter
carried_none i [] = refl
carried_none i (r ∷ rs) = split (λ l. carried_in l ≡ []) (row_held r) (λ _. carried_none (suc i) rs) (λ _. carried_none (suc i) rs)

-- the events that it carries are those of the book's picks, in its order; pre are the rows before row i
pub carried-events : (m : Classes) (k : Space) (pre : List Row) (i : ℕ) (rows : List Row) → length pre ≡ i
    → carried_in (carry m k (collect [] i rows)) ≡ map (event_at (pre ++ rows)) (picks m k i rows)
unfolding carry filter
carried-events m k pre i [] e = refl
carried-events m k pre i (r ∷ rs) e =
    let l : length (pre ++ (r ∷ [])) ≡ suc i = omega (arith, length-append pre (r ∷ [])) in
    by (row_held r)
    (λ h. by (is_asked m r.event.class)
    (λ a. by (fits k r.event)
    (λ f. rw (h, a, f, get_or_at pre r rs no_row i e) (ap (λ (es : List Event). r.event ∷ es) (carried-events m (space_after k r.event) (pre ++ (r ∷ [])) (suc i) rs l ∙ ap (λ (z : List Row). map (event_at z) (picks m (space_after k r.event) (suc i) rs)) (append_snoc pre r rs))))
    (λ f. rw (h, a, f, carried_none (suc i) rs)))
    (λ a. rw (h, a) (rw append_snoc at (carried-events m k (pre ++ (r ∷ [])) (suc i) rs l))))
    (λ h. rw h (rw append_snoc at (carried-events m k (pre ++ (r ∷ [])) (suc i) rs l)))

-- it carries an event where a row is picked
pub some-carried : (m : Classes) (k : Space) (rows : List Row) → some is_carried (carry m k (collect [] 0 rows)) ≡ not (is_nil (picks m k 0 rows))
some-carried m k rows =
    some-filter is_carried (carry m k (collect [] 0 rows))
    ∙ ap not
    (sym (is_nil-map (λ (x : Held). x.event) (filter is_carried (carry m k (collect [] 0 rows))))
    ∙ ap is_nil (carried-events m k [] 0 rows refl)
    ∙ is_nil-map (event_at rows) (picks m k 0 rows))

-- ---- a CONFIRM

-- the events that the outstation keeps are those of the rows that the book leaves held
pub keep-collect : (ws : List ℕ) (i : ℕ) (rows : List Row) → filter not_carried (collect ws i rows) ≡ collect [] i (release ws i rows)
unfolding filter
keep-collect ws i [] = refl
keep-collect ws i (r ∷ rs) =
    by (row_held r)
    (λ h. by (member i ws) (λ w. rw (h, w, keep-collect ws (suc i) rs)) (λ w. rw (h, w, h, keep-collect ws (suc i) rs)))
    (λ h. by (member i ws) (λ w. rw (h, w, keep-collect ws (suc i) rs)) (λ w. rw (h, w, h, keep-collect ws (suc i) rs)))

-- ---- an event raised: a row at the end, held or dropped

abbrev pub held_row : Event → Row
held_row e = record { event = e; mark = held }

abbrev pub dropped_row : Event → Row
dropped_row e = record { event = e; mark = dropped }

pub since-held : (n : ℕ) (rows : List Row) (e : Event) → n ≤ length rows → drop_since n (rows ++ (held_row e ∷ [])) ≡ drop_since n rows
since-held n rows e h = rw (some-drop-snoc row_dropped n rows (held_row e) h, or-false)

pub since-dropped : (n : ℕ) (rows : List Row) (e : Event) → n ≤ length rows → drop_since n (rows ++ (dropped_row e ∷ [])) ≡ true
since-dropped n rows e h = rw (some-drop-snoc row_dropped n rows (dropped_row e) h, or-true)
