-- Laws of an event's bytes: their number, and how they are put.
-- Assumes nothing.
use mathlib.Core.Path.{◌≡◌, refl, sym, ap, ◌∙◌}
use mathlib.Core.Bool.{Bool, true, false}
use mathlib.Core.List.{List, [], ◌∷◌, ◌++◌, map}
use Prim.Native.Nat.{ℕ, suc, ◌+◌, ◌≤◌}
use native.Mathlib.Omega.{arith}
use lib.ListN.{length, set, length-append}
use Rattle.laws.proofs.Loops.{filter-nil, filter-yes, filter-no}
use Rattle.octets.specs.Bytes.{splice, le}
use Rattle.octets.proofs.Splice.{splice-append, splice-cons, splice-nil}
use Rattle.octets.proofs.Le.{length-le}
use Rattle.points.specs.declared.Value.{Value}
use Rattle.points.specs.declared.Value.TheVariants as V
use Rattle.objects.specs.Values.{value_bytes, value_size, state_byte}
use Rattle.objects.proofs.ValueLaws.{length-value}
use Rattle.objects.specs.Runs.{lead}
use Rattle.objects.proofs.RunLaws.{lead-nil, lead-other}
use Rattle.events.specs.Placing.{kind_of, shown_kind, kind_number, object_size}
use Rattle.events.specs.BufferView.{is_carried}
use Rattle.events.specs.declared.Shown.{Shown}
use Rattle.events.specs.declared.Shown.TheVariants.{State, Analog}
use Rattle.events.specs.declared.Event.{Event}
use Rattle.events.specs.declared.EventKind.{EventKind}
use Rattle.events.specs.declared.EventKind.TheVariants.{Binary, Int32, Int16, Float32}
use Rattle.events.specs.declared.Held.{Held}
use Rattle.event_objects.specs.Events.{event_heading, flags_byte, shown_bytes, event_bytes, event_object, carried_events, carried_objects}

-- ---- putting

pub event-put : (d : List ℕ) (at p f n : ℕ) (v t : List ℕ) → n ≡ at + 3 + length v
    → splice (splice (set (splice d at (le 2 p)) (at + 2) f) (at + 3) v) n t ≡ splice d at (le 2 p ++ (f ∷ (v ++ t)))
event-put d at p f n v t e =
    let d1 : List ℕ = splice d at (le 2 p) in
    let o3 : at + 2 + 1 ≡ at + 3 = omega arith in
    ap (λ (k : ℕ). splice (splice (set d1 (at + 2) f) (at + 3) v) k t) e
    ∙ sym (splice-append (set d1 (at + 2) f) (at + 3) v t)
    ∙ ap (λ (k : ℕ). splice (set d1 (at + 2) f) k (v ++ t)) (sym o3)
    ∙ sym (splice-cons d1 (at + 2) f (v ++ t))
    ∙ ap (λ (k : ℕ). splice d1 (at + k) (f ∷ (v ++ t))) (sym (length-le 2 p))
    ∙ sym (splice-append d at (le 2 p) (f ∷ (v ++ t)))

-- ---- sizes

pub heading-length : (k i n : ℕ) → length (event_heading k i n) ≡ 5
heading-length k i n = ap (λ (m : ℕ). suc (suc (suc m))) (length-le 2 n)

module _ (e : Event) where
  pub length-event : length (event_bytes e) ≡ 9 + length (shown_bytes e.shown)
  unfolding event_bytes
  length-event =
      let f : ℕ = flags_byte e.shown e.flags in
      let v : List ℕ = shown_bytes e.shown in
      let a : length (le 2 e.point ++ (f ∷ (v ++ le 6 e.time))) ≡ length (le 2 e.point) + suc (length (v ++ le 6 e.time)) =
      length-append (le 2 e.point) (f ∷ (v ++ le 6 e.time)) in
      omega (arith, a, length-append v (le 6 e.time), length-le 2 e.point, length-le 6 e.time)

  pub length-least : 9 ≤ length (event_bytes e)
  length-least = omega (arith, length-event)

  pub length-state : (on : Bool) → e.shown ≡ State on → length (event_bytes e) ≡ 9
  length-state on h = length-event ∙ ap (λ (s : Shown). 9 + length (shown_bytes s)) h

  pub length-analog : (v : Value) → e.shown ≡ Analog v → length (event_bytes e) ≡ 9 + value_size v
  length-analog v h = length-event ∙ ap (λ (s : Shown). 9 + length (shown_bytes s)) h ∙ ap (λ (n : ℕ). 9 + n) (length-value v)

  -- the size that the selection counts
  pub length-size : length (event_bytes e) ≡ object_size (kind_of e)
  length-size = length-event ∙ go e.shown
    where
      go : (s : Shown) → 9 + length (shown_bytes s) ≡ object_size (shown_kind s)
      go (State on) = refl
      go (Analog (V.Int32 z)) = ap (λ (n : ℕ). 9 + n) (length-value (V.Int32 z))
      go (Analog (V.Int16 z)) = ap (λ (n : ℕ). 9 + n) (length-value (V.Int16 z))
      go (Analog (V.Float32 x)) = ap (λ (n : ℕ). 9 + n) (length-value (V.Float32 x))

  pub state-put : (d d1 d3 : List ℕ) (at f : ℕ) (on : Bool) → e.shown ≡ State on → f ≡ state_byte on e.flags
      → d1 ≡ splice d at (le 2 e.point) → d3 ≡ splice (set d1 (at + 2) f) (at + 3) (le 6 e.time)
      → d3 ≡ splice d at (event_bytes e)
  unfolding event_bytes
  state-put d d1 d3 at f on h hf e1 e3 =
      e3
      ∙ ap (λ (x : List ℕ). splice (set x (at + 2) f) (at + 3) (le 6 e.time)) e1
      ∙ ap (λ (x : List ℕ). splice x (at + 3) (le 6 e.time)) (sym (splice-nil (set (splice d at (le 2 e.point)) (at + 2) f) (at + 3)))
      ∙ event-put d at e.point f (at + 3) [] (le 6 e.time) (omega arith)
      ∙ ap (λ (k : ℕ). splice d at (le 2 e.point ++ (k ∷ le 6 e.time))) hf
      ∙ ap (λ (s : Shown). splice d at (le 2 e.point ++ (flags_byte s e.flags ∷ (shown_bytes s ++ le 6 e.time)))) (sym h)

  pub analog-put : (d d1 d2 d3 : List ℕ) (at n : ℕ) (v : Value) → e.shown ≡ Analog v → n ≡ at + 3 + value_size v
      → d1 ≡ splice d at (le 2 e.point) → d2 ≡ splice (set d1 (at + 2) e.flags) (at + 3) (value_bytes v) → d3 ≡ splice d2 n (le 6 e.time)
      → d3 ≡ splice d at (event_bytes e)
  unfolding event_bytes
  analog-put d d1 d2 d3 at n v h hn e1 e2 e3 =
      e3
      ∙ ap (λ (x : List ℕ). splice x n (le 6 e.time)) (e2 ∙ ap (λ (x : List ℕ). splice (set x (at + 2) e.flags) (at + 3) (value_bytes v)) e1)
      ∙ event-put d at e.point e.flags n (value_bytes v) (le 6 e.time) (hn ∙ ap (λ (k : ℕ). at + 3 + k) (sym (length-value v)))
      ∙ ap (λ (s : Shown). splice d at (le 2 e.point ++ (flags_byte s e.flags ∷ (shown_bytes s ++ le 6 e.time)))) (sym h)

-- ---- the carried events' objects

pub carried-nil : carried_objects [] ≡ []
unfolding carried_objects carried_events
carried-nil = ap (λ (l : List Held). map event_object (map (λ (h : Held). h.event) l)) (filter-nil is_carried)

module _ (h : Held) (hs : List Held) where
  pub carried-yes : h.carried ≡ true → carried_objects (h ∷ hs) ≡ event_object h.event ∷ carried_objects hs
  unfolding carried_objects carried_events
  carried-yes t = ap (λ (l : List Held). map event_object (map (λ (x : Held). x.event) l)) (filter-yes is_carried h hs t)

  pub carried-no : h.carried ≡ false → carried_objects (h ∷ hs) ≡ carried_objects hs
  unfolding carried_objects carried_events
  carried-no t = ap (λ (l : List Held). map event_object (map (λ (x : Held). x.event) l)) (filter-no is_carried h hs t)

pub kind-some : (k : EventKind) → kind_number k ≡ 0 → ⊥
kind-some Binary h = omega arith
kind-some Int32 h = omega arith
kind-some Int16 h = omega arith
kind-some Float32 h = omega arith

none_of : (es : List Event) → lead 0 (map event_object es) ≡ 0
none_of [] = lead-nil 0
none_of (e ∷ es) = lead-other (event_object e) (map event_object es) 0 (kind-some (kind_of e))

-- no object is of the kind 0
pub none_first : (hs : List Held) → lead 0 (carried_objects hs) ≡ 0
unfolding carried_objects
none_first hs = none_of (carried_events hs)
