-- The selection and the encoding agree: what a selection carries takes exactly the room that it counts.
-- Assumes nothing.
use mathlib.Core.Path.{◌≡◌, refl, ap, ◌∙◌}
use mathlib.Core.Bool.{Bool, true, false, not, cond}
use mathlib.Core.List.{List, [], ◌∷◌, map}
use Prim.Native.Nat.{ℕ, ◌+◌, ◌≤◌}
use native.Mathlib.Omega.{arith}
use borrow.Author.Tests.{eqb-true, eqb-false, leb-true}
use lib.Dec.{eqb}
use lib.ListN.{length}
use Rattle.objects.specs.Runs.{Object, size_after}
use Rattle.objects.proofs.RunLaws.{size-nil, size_same, size-new}
use Rattle.objects.proofs.WriterLaws.{encoded-size}
use Rattle.events.specs.Placing.{is_asked, kind_of, kind_number, last_number, object_size, cost_of, fits, space_after, empty_space}
use Rattle.events.specs.BufferView.{marked, carry}
use Rattle.events.specs.declared.Event.{Event}
use Rattle.events.specs.declared.Held.{Held}
use Rattle.events.specs.declared.Classes.{Classes}
use Rattle.events.specs.declared.Space.{Space}
use Rattle.event_objects.specs.Events.{event_heading, event_object, carried_objects, carried_bytes}
use Rattle.event_objects.proofs.EventLaws.{carried-nil, carried-yes, carried-no, length-size, heading-length, none_first}

-- the room that a selection leaves
unfoldable pub spare : Classes → Space → List Held → ℕ
spare m k [] = k.left
spare m k (h ∷ hs) =
    cond (is_asked m h.event.class) (cond (fits k h.event) (spare m (space_after k h.event) hs) k.left) (spare m k hs)

none : (hs : List Held) → carried_objects (map (marked false) hs) ≡ []
none [] = carried-nil
none (h ∷ hs) = carried-no (marked false h) (map (marked false) hs) refl ∙ none hs

cost-size : (k : Space) (e : Event) (xs : List Object) → size_after 5 (last_number k.kind) (event_object e ∷ xs) ≡ cost_of k (kind_of e) + size_after 5 (kind_number (kind_of e)) xs
unfolding cost_of
cost-size k e xs = go (eqb (kind_number (kind_of e)) (last_number k.kind)) refl
  where
    go : (b : Bool) → eqb (kind_number (kind_of e)) (last_number k.kind) ≡ b
        → size_after 5 (last_number k.kind) (event_object e ∷ xs) ≡ cond b (object_size (kind_of e)) (object_size (kind_of e) + 5) + size_after 5 (kind_number (kind_of e)) xs
    go true h = size_same (event_object e) xs 5 (last_number k.kind) (eqb-true (kind_number (kind_of e)) (last_number k.kind) h) ∙ ap (λ (n : ℕ). n + size_after 5 (kind_number (kind_of e)) xs) (length-size e)
    go false h =
        size-new (event_object e) xs 5 (last_number k.kind) (eqb-false (kind_number (kind_of e)) (last_number k.kind) h)
        ∙ ap (λ (n : ℕ). 5 + n + size_after 5 (kind_number (kind_of e)) xs) (length-size e)
        ∙ omega arith

-- one event more: what it adds to the size is taken from the room
module _ (m : Classes) (k : Space) (h : Held) (us : List Held) (unmarked : carried_objects us ≡ [])
    (passed : size_after 5 (last_number k.kind) (carried_objects (carry m k us)) + spare m k us ≡ k.left)
    (taken : size_after 5 (last_number (space_after k h.event).kind) (carried_objects (carry m (space_after k h.event) us)) + spare m (space_after k h.event) us ≡ (space_after k h.event).left) where
  turn : (a f : Bool) → fits k h.event ≡ f
      → size_after 5 (last_number k.kind) (carried_objects (cond (not a) (marked false h ∷ carry m k us) (cond (not f) (marked false h ∷ us) (marked true h ∷ carry m (space_after k h.event) us))))
      + cond a (cond f (spare m (space_after k h.event) us) k.left) (spare m k us)
      ≡ k.left
  unfolding fits space_after
  turn false f e = ap (λ (xs : List Object). size_after 5 (last_number k.kind) xs + spare m k us) (carried-no (marked false h) (carry m k us) refl) ∙ passed
  turn true false e =
      let s : size_after 5 (last_number k.kind) (carried_objects (marked false h ∷ us)) ≡ 0 =
      ap (size_after 5 (last_number k.kind)) (carried-no (marked false h) us refl ∙ unmarked) ∙ size-nil 5 (last_number k.kind) in
      omega arith
  turn true true e =
      let rest : List Held = carry m (space_after k h.event) us in
      let s : size_after 5 (last_number k.kind) (carried_objects (marked true h ∷ rest)) ≡ cost_of k (kind_of h.event) + size_after 5 (kind_number (kind_of h.event)) (carried_objects rest) =
      ap (size_after 5 (last_number k.kind)) (carried-yes (marked true h) rest refl) ∙ cost-size k h.event (carried_objects rest) in
      let c : cost_of k (kind_of h.event) ≤ k.left = leb-true (cost_of k (kind_of h.event)) k.left e in
      omega (arith, s, c, taken)

balance : (m : Classes) (k : Space) (hs : List Held)
    → size_after 5 (last_number k.kind) (carried_objects (carry m k (map (marked false) hs))) + spare m k (map (marked false) hs) ≡ k.left
unfolding carry spare
balance m k [] = omega (arith, ap (size_after 5 (last_number k.kind)) carried-nil ∙ size-nil 5 (last_number k.kind))
balance m k (h ∷ hs) =
    turn m k (marked false h) (map (marked false) hs) (none hs) (balance m k hs) (balance m (space_after k h.event) hs) (is_asked m h.event.class) (fits k h.event) refl

-- a selection takes exactly the room less what it leaves
pub within-exactly : (m : Classes) (room : ℕ) (hs : List Held)
    → length (carried_bytes (carry m (empty_space room) (map (marked false) hs))) + spare m (empty_space room) (map (marked false) hs) ≡ room
unfolding carried_bytes
within-exactly m room hs =
    let us : List Held = carry m (empty_space room) (map (marked false) hs) in
    ap (λ (n : ℕ). n + spare m (empty_space room) (map (marked false) hs)) (encoded-size event_heading 5 heading-length (carried_objects us) (none_first us))
    ∙ balance m (empty_space room) hs

-- the room that `put_events` asks for
pub within : (m : Classes) (room : ℕ) (hs : List Held) → length (carried_bytes (carry m (empty_space room) (map (marked false) hs))) ≤ room
within m room hs = omega (arith, within-exactly m room hs)
