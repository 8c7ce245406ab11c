-- Laws of the selection: a placement's three answers, and what each makes of the rest.
-- Assumes nothing.
use mathlib.Core.Path.{◌≡◌, refl, sym, ap, ◌∙◌}
use mathlib.Core.Bool.{Bool, true, false, not, cond}
use mathlib.Core.List.{List, [], ◌∷◌}
use Prim.Native.Nat.{ℕ, ◌-◌, ◌≤◌, ◌<◌}
use Rattle.std.proofs.Common.{Some, eqb}
use borrow.Author.Tests.{le-leb, lt-leb}
use Rattle.laws.proofs.Tests.{cond_same}
use Rattle.events.specs.Placing.{is_asked, kind_of, cost_of, fits, space_after, place_event}
use Rattle.events.specs.BufferView.{marked, carry}
use Rattle.events.specs.declared.Event.{Event}
use Rattle.events.specs.declared.EventKind.{EventKind}
use Rattle.events.specs.declared.Held.{Held}
use Rattle.events.specs.declared.Classes.{Classes}
use Rattle.events.specs.declared.Space.{Space}
use Rattle.events.specs.declared.Placement.TheVariants.{Pass, Stop, Carry}

-- what the code finds out of an event is its placement
module _ (m : Classes) (k : Space) (e : Event) where
  pub placement-carry : (n : EventKind) (c : ℕ) → is_asked m e.class ≡ true → n ≡ kind_of e → c ≡ cost_of k n → c ≤ k.left
      → Carry (record { left = k.left - c; kind = Some n }) ≡ place_event m k e
  unfolding place_event fits space_after
  placement-carry n c ha hk hn hl = rw (ha, ← hk, ← hn, le-leb c k.left hl)

  pub placement-stop : (n : EventKind) (c : ℕ) → is_asked m e.class ≡ true → n ≡ kind_of e → c ≡ cost_of k n → k.left < c → Stop ≡ place_event m k e
  unfolding place_event fits space_after
  placement-stop n c ha hk hn hl = rw (ha, ← hk, ← hn, lt-leb c k.left hl)

  pub placement-pass : is_asked m e.class ≡ false → Pass ≡ place_event m k e
  unfolding place_event
  placement-pass ha = rw ha

-- a placement tells its two tests, so it tells any choice by the same two
module _ {X : Type 0} (p : Space) (x y z : X) where
  by-pass : (a f : Bool) → cond (not a) Pass (cond (not f) Stop (Carry p)) ≡ Pass → cond (not a) z (cond (not f) y x) ≡ z
  by-pass false f e = refl
  by-pass true true e = cc
  by-pass true false e = cc

  by-stop : (a f : Bool) → cond (not a) Pass (cond (not f) Stop (Carry p)) ≡ Stop → cond (not a) z (cond (not f) y x) ≡ y
  by-stop false f e = cc
  by-stop true true e = cc
  by-stop true false e = refl

  by-carry : (q : Space) (a f : Bool) → cond (not a) Pass (cond (not f) Stop (Carry p)) ≡ Carry q → (cond (not a) z (cond (not f) y x) ≡ x) × (p ≡ q)
  by-carry q false f e = (cc, cc)
  by-carry q true true e = (refl, cc)
  by-carry q true false e = (cc, cc)

module _ (m : Classes) (k : Space) (h : Held) (hs : List Held) where
  pub carry-pass : place_event m k h.event ≡ Pass → carry m k (h ∷ hs) ≡ h ∷ carry m k hs
  unfolding carry place_event
  carry-pass t = by-pass (space_after k h.event) _ _ _ (is_asked m h.event.class) (fits k h.event) t

  pub carry-stop : place_event m k h.event ≡ Stop → carry m k (h ∷ hs) ≡ h ∷ hs
  unfolding carry place_event
  carry-stop t = by-stop (space_after k h.event) _ _ _ (is_asked m h.event.class) (fits k h.event) t

  pub carry-carry : (q : Space) → place_event m k h.event ≡ Carry q → carry m k (h ∷ hs) ≡ marked true h ∷ carry m q hs
  unfolding carry place_event
  carry-carry q t =
      let w = by-carry (space_after k h.event) (marked true h ∷ carry m (space_after k h.event) hs) (h ∷ hs) (h ∷ carry m k hs) q (is_asked m h.event.class) (fits k h.event) t in
      w.0 ∙ ap (λ (r : Space). marked true h ∷ carry m r hs) w.1

pub carry-nil : (m : Classes) (k : Space) → carry m k [] ≡ []
unfolding carry
carry-nil m k = refl

-- where no class is asked for nothing is carried
module _ (m : Classes) (one : m.one ≡ false) (two : m.two ≡ false) (three : m.three ≡ false) where
  unasked : (c : ℕ) → is_asked m c ≡ false
  unasked c = rw (one, two, three, cond_same (eqb c 3) false, cond_same (eqb c 2) false, cond_same (eqb c 1) false)

  pub carry-unasked : (k : Space) (hs : List Held) → carry m k hs ≡ hs
  carry-unasked k [] = carry-nil m k
  carry-unasked k (h ∷ hs) =
      carry-pass m k h hs (sym (placement-pass m k h.event (unasked h.event.class))) ∙ ap (λ (l : List Held). h ∷ l) (carry-unasked k hs)
