-- Demand 3, over every list of calls.
-- Assumes nothing.
use Prim.Native.Nat.{suc, ◌+◌}
use mathlib.Core.Path.{◌≡◌, refl, ap}
use mathlib.Core.Logic.{◌↔◌}
use mathlib.Core.Bool.{true, cond}
use mathlib.Core.List.{List, [], ◌∷◌, ◌++◌}
use native.Mathlib.Omega.{arith}
use lib.ListN.{length}
use Rattle.laws.specs.Lists.{count}
use Rattle.outstation.specs.Setup.{Setup}
use Rattle.outstation.specs.OutstationView.{OutstationView, restarted}
use Rattle.outstation.specs.Lent.{Outstation, outstation_view}
use Rattle.outstation.specs.Step.{Call, Answer, silent, Result, step}
use Rattle.outstation.specs.CallContracts.{StepHolds}
use Rattle.book.specs.Book.{Book, Row, HistoryEntry, held, released, dropped, is_held, is_released, is_dropped}
use Rattle.book.specs.Book.{row_held, row_released, row_dropped, enter, book_of}
use Rattle.book.specs.Demand3.{Pending, kept_by, AllAgree, book_after, history_after, Demand3, Demand3Holds, CountsHold, Ran, none, more}
use Rattle.laws.proofs.Choices.{by}
use Rattle.book.proofs.Rows.{collect, length-collect, events-collect}
use Rattle.book.proofs.Step.{Sim, Match, step_ok, start-ok, wait_rows}
use Rattle.book.proofs.Past.{KeptBy, enter-kept, opened-kept}
use Rattle.book.proofs.Numbers.{NumberedBy, enter-numbered, opened-numbered}
use Rattle.book.proofs.Places.{PlacingBy, enter-placing, opened-placing, placed}

-- each row has one of the three marks
places : (rows : List Row) → length rows ≡ count row_held rows + count row_released rows + count row_dropped rows
places [] = refl
places (r ∷ rs) =
    let h = places rs in
    elim r.mark as
    (λ m. suc (length rs)
    ≡ cond (is_held m) (suc (count row_held rs)) (count row_held rs)
    + cond (is_released m) (suc (count row_released rs)) (count row_released rs)
    + cond (is_dropped m) (suc (count row_dropped rs)) (count row_dropped rs))
    [ held ↦ omega arith | released ↦ omega arith | dropped ↦ omega arith ]

-- the warning stands exactly when a drop is pending
warns : (b : Book) (h : List HistoryEntry) → KeptBy b h → (b.master.warning ≡ true) ↔ Pending h
warns b h k = (k.warned, λ p. by b.master.warning (λ t. t) (λ t. absurd (k.clear t p)))

placing-after : (cs : List Call) (b : Book) (h : List HistoryEntry) → PlacingBy b h → PlacingBy (book_after cs b) (history_after cs b h)
placing-after [] b h p = p
placing-after (c ∷ cs) b h p = placing-after cs (enter c b).book ((enter c b).entries ++ h) (enter-placing c b h p)

numbered-after : (cs : List Call) (b : Book) (h : List HistoryEntry) → NumberedBy b h → NumberedBy (book_after cs b) (history_after cs b h)
numbered-after [] b h p = p
numbered-after (c ∷ cs) b h p = numbered-after cs (enter c b).book ((enter c b).entries ++ h) (enter-numbered c b h p)

-- the outstation is a view of the book, whatever was answered last
record View (w : OutstationView) (b : Book) : Type 0 where
  last : Answer
  sim : Sim w b last

-- any states, the view of one, and what a call's contract ensures: the step of that view
module _ (O : Type 0) (view_of : O → OutstationView) (did : O → Call → Answer → O → Type 0)
    (does : (o o₁ : O) (c : Call) (a : Answer) → did o c a o₁
    → ◌≡◌ {A = Result} (record { state = view_of o₁; answer = a }) (step c (view_of o))) where
  all_told : {o o₂ : O} {cs : List Call} {ans : List Answer} (b : Book) (h : List HistoryEntry) (last : Answer) → Sim (view_of o) b last → KeptBy b h
      → Ran O did o cs ans o₂ → AllAgree b h last cs ans × View (view_of o₂) (book_after cs b)
  all_told b h last m k none = (tt, record { last = last; sim = m })
  all_told b h last m k (more {o} {o₁} {o₂} {c} {cs} {a} {ans} d rest) =
      let x : Match h last (record { state = view_of o₁; answer = a }) (enter c b)
      = rw (does o o₁ c a d) (step_ok h last c (view_of o) b (warns b h k) m) in
      let (ts, m₂) = all_told (enter c b).book ((enter c b).entries ++ h) (kept_by (enter c b).answer last a) x.sim (enter-kept c b h k) rest in
      ((x.agrees, ts), m₂)

  -- from a restart
  pub demand3 : (u : Setup) {o o₂ : O} {cs : List Call} {ans : List Answer} → view_of o ≡ restarted u → Ran O did o cs ans o₂
      → Demand3 u cs ans (view_of o₂)
  demand3 u {o} {o₂} {cs} {ans} e r =
      let (ts, v) = all_told (book_of u) [] (silent []) (rw e (start-ok u)) (opened-kept u) r in
      let b = book_after cs (book_of u) in
      let hs : (view_of o₂).master.buffer.held ≡ collect (wait_rows b.master.wait) 0 b.master.rows = ap (λ (w : OutstationView). w.master.buffer.held) v.sim.is in
      let p = placing-after cs (book_of u) [] (opened-placing u) in
      let n = numbered-after cs (book_of u) [] (opened-numbered u) in
      record {
        agrees = ts;
        placed = λ i l. placed b.master.wait b.master.rows b.master.built (history_after cs (book_of u) []) p n.sound i l;
        holds = rw hs (events-collect (wait_rows b.master.wait) 0 b.master.rows);
        places = rw (hs, length-collect) (places b.master.rows);
      }

-- of the outstation's own states and contracts
pub demand3-holds : Demand3Holds
demand3-holds u o o₂ cs ans f e r = demand3 Outstation outstation_view StepHolds (λ o o₁ c a d. d.result) u e r

-- no count passes its array after any list of calls
pub counts-hold : CountsHold
counts-hold o o₂ cs ans c none = c
counts-hold o o₂ cs ans c (more d r) = counts-hold _ o₂ _ _ (d.counted c) r
