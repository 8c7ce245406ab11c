-- The book's warning against the history: it stands exactly where events were dropped and no response built after the latest
-- drop was confirmed.
-- Assumes nothing.
use Prim.Native.Nat.{ℕ, suc, ◌≤◌, ◌<◌}
use mathlib.Core.Path.{◌≡◌, refl, sym, ap, ◌∙◌}
use mathlib.Core.Logic.{inl, inr}
use mathlib.Core.Bool.{Bool, true, false, cond}
use mathlib.Core.List.{List, [], ◌∷◌, ◌++◌, head-eq_of_cons-eq, tail-eq_of_cons-eq}
use mathlib.Core.List.Memᴰ
use native.Mathlib.Omega.{arith}
use native.Mathlib.Nat.{le_refl}
use lib.ListN.{length, length-append}
use lib.Seq.{drop-length}
use Rattle.events.specs.declared.Event.{Event}
use Rattle.outstation.specs.Setup.{Setup}
use Rattle.outstation.specs.Step.{Call}
use Rattle.book.specs.Book as B
use Rattle.book.specs.Book.{Book, Row, HistoryEntry, hold!, drop!, built!, confirmed!, drop_since, picks, release, idle, awaiting, BookWait}
use Rattle.book.specs.Demand3.{Has, Pending}
use Rattle.laws.proofs.Choices.{by}
use Rattle.book.proofs.Walk.{Steps, enter-on}
use Rattle.book.proofs.Rows.{since-held, since-dropped, held_row, dropped_row}

abbrev NoDrop : List HistoryEntry → Type 0
NoDrop h = (r : ℕ) → Has (drop! r) h → ⊥

-- response k was built and nothing was dropped after it
record Quiet (k : ℕ) (h : List HistoryEntry) : Type 0 where
  later : List HistoryEntry
  ws : List ℕ
  earlier : List HistoryEntry
  split : h ≡ later ++ built! k ws ∷ earlier
  quiet : NoDrop later

-- response k was built before the latest drop
abbrev Before : ℕ → List HistoryEntry → Type 0
Before k h =
    (later : List HistoryEntry) (r : ℕ) (earlier : List HistoryEntry) → h ≡ later ++ drop! r ∷ earlier → NoDrop later → (ws : List ℕ)
    → Has (built! k ws) later → ⊥

record Awaits (rows : List Row) (n k built : ℕ) (h : List HistoryEntry) : Type 0 where
  number : k < built
  from : n ≤ length rows
  before : drop_since n rows ≡ true → Before k h
  quiet : drop_since n rows ≡ false → Quiet k h

abbrev Awaited : BookWait → List Row → ℕ → List HistoryEntry → Type 0
Awaited idle rows built h = Unit {0}
Awaited (awaiting q t ws n k) rows built h = Awaits rows n k built h

pub record Kept (w : BookWait) (rows : List Row) (warning : Bool) (built : ℕ) (h : List HistoryEntry) : Type 0 where
  pub warned : warning ≡ true → Pending h
  pub clear : warning ≡ false → Pending h → ⊥
  pub numbers : (k : ℕ) → Has (confirmed! k) h → k < built
  awaited : Awaited w rows built h

no-nil : NoDrop []
no-nil r m = Memᴰ.not-nil m

-- a history with a newest entry x that is no drop
module _ (x : HistoryEntry) (n : (r : ℕ) → drop! r ≡ x → ⊥) where
  quiet-more : (h : List HistoryEntry) → NoDrop h → NoDrop (x ∷ h)
  quiet-more h q r m = elim (Memᴰ.cases_cons m) [ inl e ↦ n r e | inr m' ↦ q r m' ]

  -- x stands in what came after a drop
  peel : (h later : List HistoryEntry) (r : ℕ) (earlier : List HistoryEntry) → x ∷ h ≡ later ++ drop! r ∷ earlier
      → (l : List HistoryEntry) × (later ≡ x ∷ l) × (h ≡ l ++ drop! r ∷ earlier)
  peel h [] r earlier e = absurd (n r (sym (head-eq_of_cons-eq e)))
  peel h (y ∷ l) r earlier e = (l, ap (λ z. z ∷ l) (sym (head-eq_of_cons-eq e)), tail-eq_of_cons-eq e)

  pending-on : (h : List HistoryEntry) → (p : Pending h)
      → ((k : ℕ) (ws : List ℕ) → Has (built! k ws) (x ∷ p.later) → Has (confirmed! k) (x ∷ h) → ⊥) → Pending (x ∷ h)
  pending-on h p u =
      record {
        later = x ∷ p.later;
        row = p.row;
        earlier = p.earlier;
        split = ap (λ z. x ∷ z) p.split;
        latest = quiet-more p.later p.latest;
        unconfirmed = u;
      }

  pending-back : (h : List HistoryEntry) → Pending (x ∷ h) → Pending h
  pending-back h p =
      let (l, e, s) = peel h p.later p.row p.earlier p.split in
      record {
        later = l;
        row = p.row;
        earlier = p.earlier;
        split = s;
        latest = λ r m. p.latest r (rw e (Memᴰ.tail m));
        unconfirmed = λ k ws m c. p.unconfirmed k ws (rw e (Memᴰ.tail m)) (Memᴰ.tail c);
      }

-- a drop
pending-drop : (r : ℕ) (h : List HistoryEntry) → Pending (drop! r ∷ h)
pending-drop r h =
    record { later = []; row = r; earlier = h; split = refl; latest = no-nil; unconfirmed = λ k ws m. absurd (Memᴰ.not-nil m) }

before-drop : (k r : ℕ) (h : List HistoryEntry) → Before k (drop! r ∷ h)
before-drop k r h [] r₁ earlier e q ws m = Memᴰ.not-nil m
before-drop k r h (y ∷ l) r₁ earlier e q ws m = q r (Memᴰ.head (head-eq_of_cons-eq e))

-- two happenings of other kinds
drop-built : (r k : ℕ) (ws : List ℕ) → drop! r ≡ built! k ws → ⊥
drop-built r k ws e = let z : ◌≡◌ {A = ℕ} 0 1 = cc in omega arith

drop-confirmed : (r k : ℕ) → drop! r ≡ confirmed! k → ⊥
drop-confirmed r k e = let z : ◌≡◌ {A = ℕ} 0 1 = cc in omega arith

drop-hold : (r i : ℕ) → drop! r ≡ hold! i → ⊥
drop-hold r i e = let z : ◌≡◌ {A = ℕ} 0 1 = cc in omega arith

confirmed-hold : (k i : ℕ) → confirmed! k ≡ hold! i → ⊥
confirmed-hold k i e = let z : ◌≡◌ {A = ℕ} 0 1 = cc in omega arith

built-hold : (k : ℕ) (ws : List ℕ) (i : ℕ) → built! k ws ≡ hold! i → ⊥
built-hold k ws i e = let z : ◌≡◌ {A = ℕ} 0 1 = cc in omega arith

-- an event held
quiet-hold : (k i : ℕ) (h : List HistoryEntry) → Quiet k h → Quiet k (hold! i ∷ h)
quiet-hold k i h q =
    record {
      later = hold! i ∷ q.later;
      ws = q.ws;
      earlier = q.earlier;
      split = ap (λ z. hold! i ∷ z) q.split;
      quiet = quiet-more (hold! i) (λ r. drop-hold r i) q.later q.quiet;
    }

before-hold : (k i : ℕ) (h : List HistoryEntry) → Before k h → Before k (hold! i ∷ h)
before-hold k i h b later r earlier e n ws m =
    let (l, f, s) = peel (hold! i) (λ r. drop-hold r i) h later r earlier e in
    elim (Memᴰ.cases_cons (rw f at m)) [
      | inl g ↦ built-hold k ws i g
      | inr m' ↦ b l r earlier s (λ r' d. n r' (rw f (Memᴰ.tail d))) ws m'
    ]

-- an older confirmation, where the newest entry is none
older : (x : HistoryEntry) (k : ℕ) (h : List HistoryEntry) → (confirmed! k ≡ x → ⊥) → Has (confirmed! k) (x ∷ h) → Has (confirmed! k) h
older x k h n m = elim (Memᴰ.cases_cons m) [ inl e ↦ absurd (n e) | inr m' ↦ m' ]

confirmed-drop : (k r : ℕ) → confirmed! k ≡ drop! r → ⊥
confirmed-drop k r e = drop-confirmed r k (sym e)

confirmed-built : (k j : ℕ) (ws : List ℕ) → confirmed! k ≡ built! j ws → ⊥
confirmed-built k j ws e = let z : ◌≡◌ {A = ℕ} 0 1 = cc in omega arith

module _ (rows : List Row) (warning : Bool) (built : ℕ) (h : List HistoryEntry) where
  awaited-held : (w : BookWait) (e : Event) (i : ℕ) → Awaited w rows built h → Awaited w (rows ++ (held_row e ∷ [])) built (hold! i ∷ h)
  awaited-held idle e i a = tt
  awaited-held (awaiting q t ws n k) e i a =
      record {
        number = a.number;
        from = simp length-append (omega (arith, a.from));
        before = rw (since-held n rows e a.from) (λ d. before-hold k i h (a.before d));
        quiet = rw (since-held n rows e a.from) (λ d. quiet-hold k i h (a.quiet d));
      }

  awaited-drop : (w : BookWait) (e : Event) (r : ℕ) → Awaited w rows built h → Awaited w (rows ++ (dropped_row e ∷ [])) built (drop! r ∷ h)
  awaited-drop idle e r a = tt
  awaited-drop (awaiting q t ws n k) e r a =
      record {
        number = a.number;
        from = simp length-append (omega (arith, a.from));
        before = λ _. before-drop k r h;
        quiet = λ f. absurd (let g : true ≡ false = sym (since-dropped n rows e a.from) ∙ f in let z : ◌≡◌ {A = ℕ} 0 1 = cc in omega arith);
      }

  kept-held : (w : BookWait) (e : Event) (i : ℕ) → Kept w rows warning built h → Kept w (rows ++ (held_row e ∷ [])) warning built (hold! i ∷ h)
  kept-held w e i k =
      record {
        warned = λ t. let p = k.warned t in
            pending-on (hold! i) (λ r. drop-hold r i) h p
            (λ j ws m c. elim (Memᴰ.cases_cons m) [
              | inl g ↦ built-hold j ws i g
              | inr m' ↦ p.unconfirmed j ws m' (older (hold! i) j h (confirmed-hold j i) c)
            ]);
        clear = λ f p. k.clear f (pending-back (hold! i) (λ r. drop-hold r i) h p);
        numbers = λ j m. k.numbers j (older (hold! i) j h (confirmed-hold j i) m);
        awaited = awaited-held w e i k.awaited;
      }

  kept-drop : (w : BookWait) (e : Event) (r : ℕ) → Kept w rows warning built h → Kept w (rows ++ (dropped_row e ∷ [])) true built (drop! r ∷ h)
  kept-drop w e r k =
      record {
        warned = λ _. pending-drop r h;
        clear = λ f p. let z : ◌≡◌ {A = ℕ} 0 1 = cc in omega arith;
        numbers = λ j m. k.numbers j (older (drop! r) j h (confirmed-drop j r) m);
        awaited = awaited-drop w e r k.awaited;
      }

  kept-idle : (w : BookWait) → Kept w rows warning built h → Kept idle rows warning built h
  kept-idle w k = record { warned = k.warned; clear = k.clear; numbers = k.numbers; awaited = tt }

  -- a newly built response, which awaits no confirmation
  kept-built : (w : BookWait) (ws : List ℕ) → Kept w rows warning built h → Kept idle rows warning (suc built) (built! built ws ∷ h)
  kept-built w ws k =
      record {
        warned = λ t. let p = k.warned t in
            pending-on (built! built ws) (λ r. drop-built r built ws) h p
            (λ j vs m c. elim (Memᴰ.cases_cons m) [
              | inl e ↦ (let i : j < built = k.numbers j (older (built! built ws) j h (confirmed-built j built ws) c) in let f : j ≡ built = cc in omega arith)
              | inr m' ↦ p.unconfirmed j vs m' (older (built! built ws) j h (confirmed-built j built ws) c)
            ]);
        clear = λ f p. k.clear f (pending-back (built! built ws) (λ r. drop-built r built ws) h p);
        numbers = λ j m. omega (arith, k.numbers j (older (built! built ws) j h (confirmed-built j built ws) m));
        awaited = tt;
      }

  -- one that does
  kept-awaiting : (q t : ℕ) (ws : List ℕ) → Kept idle rows warning (suc built) (built! built ws ∷ h)
      → Kept (awaiting q t ws (length rows) built) rows warning (suc built) (built! built ws ∷ h)
  kept-awaiting q t ws k =
      record {
        warned = k.warned;
        clear = k.clear;
        numbers = k.numbers;
        awaited = record {
          number = le_refl _;
          from = le_refl _;
          before = rw drop-length (λ f. absurd (let z : ◌≡◌ {A = ℕ} 0 1 = cc in omega arith));
          quiet = λ _. record { later = []; ws = ws; earlier = h; split = refl; quiet = no-nil };
        };
      }

-- where response k was built after the latest drop, it stands in what came after that drop
built-after : (k : ℕ) (ws : List ℕ) (later earlier l : List HistoryEntry) (r : ℕ) (e : List HistoryEntry)
    → later ++ built! k ws ∷ earlier ≡ l ++ drop! r ∷ e → NoDrop later → Has (built! k ws) l
built-after k ws [] earlier [] r e p q = absurd (drop-built r k ws (sym (head-eq_of_cons-eq p)))
built-after k ws [] earlier (y ∷ l) r e p q = Memᴰ.head (head-eq_of_cons-eq p)
built-after k ws (x ∷ later) earlier [] r e p q = absurd (q r (Memᴰ.head (sym (head-eq_of_cons-eq p))))
built-after k ws (x ∷ later) earlier (y ∷ l) r e p q =
    Memᴰ.tail (built-after k ws later earlier l r e (tail-eq_of_cons-eq p) (λ r' m. q r' (Memᴰ.tail m)))

built-confirmed : (k : ℕ) (ws : List ℕ) (j : ℕ) → built! k ws ≡ confirmed! j → ⊥
built-confirmed k ws j e = confirmed-built j k ws (sym e)

module _ (q t : ℕ) (ws : List ℕ) (n k : ℕ) (rows after : List Row) (warning : Bool) (built : ℕ) (h : List HistoryEntry)
    (kept : Kept (awaiting q t ws n k) rows warning built h) where
  numbers_on : (j : ℕ) → Has (confirmed! j) (confirmed! k ∷ h) → j < built
  numbers_on j m = elim (Memᴰ.cases_cons m) [ inl e ↦ (let f : j ≡ k = cc in omega (arith, kept.awaited.number)) | inr m' ↦ kept.numbers j m' ]

  -- a drop since the response: the warning stays
  kept-late : drop_since n rows ≡ true → Kept idle after warning built (confirmed! k ∷ h)
  kept-late d =
      record {
        warned = λ w. let p = kept.warned w in
            pending-on (confirmed! k) (λ r. drop-confirmed r k) h p
            (λ j vs m c. elim (Memᴰ.cases_cons m) [
              | inl e ↦ built-confirmed j vs k e
              | inr m' ↦ elim (Memᴰ.cases_cons c) [
                | inl e ↦ (let f : j ≡ k = cc in kept.awaited.before d p.later p.row p.earlier p.split p.latest vs (rw f at m'))
                | inr c' ↦ p.unconfirmed j vs m' c'
              ]
            ]);
        clear = λ f p. kept.clear f (pending-back (confirmed! k) (λ r. drop-confirmed r k) h p);
        numbers = numbers_on;
        awaited = tt;
      }

  -- none since: it is cleared
  kept-clear : drop_since n rows ≡ false → Kept idle after false built (confirmed! k ∷ h)
  kept-clear d =
      record {
        warned = λ w. absurd (let z : ◌≡◌ {A = ℕ} 0 1 = cc in omega arith);
        clear = λ f p.
            let (l, e, s) = peel (confirmed! k) (λ r. drop-confirmed r k) h p.later p.row p.earlier p.split in
            let u = kept.awaited.quiet d in
            let m = built-after k u.ws u.later u.earlier l p.row p.earlier (sym u.split ∙ s) u.quiet in
            p.unconfirmed k u.ws (rw e (Memᴰ.tail m)) (Memᴰ.head refl);
        numbers = numbers_on;
        awaited = tt;
      }

  kept-confirmed : Kept idle after (cond (drop_since n rows) warning false) built (confirmed! k ∷ h)
  kept-confirmed = by (drop_since n rows) (λ d. rw d (kept-late d)) (λ d. rw d (kept-clear d))

kept-steps : Steps Kept
kept-steps =
    record {
      held = λ w rows warning built h e f k. kept-held rows warning built h w e (length rows) k;
      dropped = λ w rows warning built h e f k. kept-drop rows warning built h w e (length rows) k;
      ended = λ w rows warning built h k. kept-idle rows warning built h w k;
      built = λ w rows warning built h ws k. kept-built rows warning built h w ws k;
      awaited = λ w rows warning built h q t m p k.
          kept-awaiting rows warning built h q t (picks m p 0 rows) (kept-built rows warning built h w (picks m p 0 rows) k);
      is_confirmed = λ rows warning built h q t ws n j k. kept-confirmed q t ws n j rows (release ws 0 rows) warning built h k;
    }

abbrev pub KeptBy : Book → List HistoryEntry → Type 0
KeptBy b h = Kept b.master.wait b.master.rows b.master.warning b.master.built h

pub enter-kept : (c : Call) (b : Book) (h : List HistoryEntry) → KeptBy b h → KeptBy (B.enter c b).book ((B.enter c b).entries ++ h)
enter-kept c b h k = enter-on Kept kept-steps c b h k

no-pending : Pending [] → ⊥
no-pending p = omega (arith, simp length-append at (ap length p.split))

pub opened-kept : (u : Setup) → KeptBy (B.book_of u) []
unfolding B.book_of
opened-kept u =
    record {
      warned = λ w. absurd (let z : ◌≡◌ {A = ℕ} 0 1 = cc in omega arith);
      clear = λ f p. no-pending p;
      numbers = λ k m. absurd (Memᴰ.not-nil m);
      awaited = tt;
    }
