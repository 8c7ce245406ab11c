-- Laws of the carried events' kinds: how a run of them is counted, that it is the run of the objects, and the kinds of events in lent words.
-- Assumes nothing.
use mathlib.Core.Path.{◌≡◌, refl, sym, ap, ◌∙◌}
use mathlib.Core.Bool.{Bool, true, false}
use mathlib.Core.List.{List, [], ◌∷◌, map}
use Prim.Native.Nat.{ℕ, zero, suc, ◌+◌, ◌≤◌, ◌<◌}
use native.Mathlib.Omega.{arith}
use borrow.Author.Tests.{eqb-true, eqb-false}
use Rattle.std.proofs.Common.{Option, Some, None}
use lib.Dec.{eqb}
use lib.ListN.{length, take, drop, get_or, length-take, drop_of_length-le, length-map, get_or-map}
use lib.Seq.{slice}
use Rattle.laws.proofs.Loops.{slice_front}
use Rattle.objects.specs.Runs.{lead}
use Rattle.objects.proofs.RunLaws.{lead-nil, lead-same, lead-other}
use Rattle.laws.specs.Limits.{events_max}
use Rattle.laws.proofs.Filling.{map-take}
use Rattle.events.specs.Placing.{kind_of, kind_number}
use Rattle.events.specs.BufferView.{no_held}
use Rattle.events.specs.declared.EventKind.{EventKind}
use Rattle.events.specs.declared.Held.{Held}
use Rattle.event_store.specs.EventWords.{slots_in}
use Rattle.event_store.proofs.EventLaws.{slots_length}
use Rattle.event_objects.specs.Events.{event_object, carried_objects, carried_kind, lead_kind}
use Rattle.event_objects.proofs.EventLaws.{carried-nil, carried-yes, carried-no}

-- ---- counting

pub lead-none : (k : EventKind) → lead_kind k [] ≡ 0
unfolding lead_kind
lead-none k = refl

module _ (k : EventKind) (x : Option EventKind) (xs : List (Option EventKind)) where
  pub lead-pass : x ≡ None → lead_kind k (x ∷ xs) ≡ lead_kind k xs
  unfolding lead_kind
  lead-pass h = rw h

  pub lead-more : (y : EventKind) → x ≡ Some y → eqb (kind_number k) (kind_number y) ≡ true → lead_kind k (x ∷ xs) ≡ suc (lead_kind k xs)
  unfolding lead_kind
  lead-more y h e = rw (h, e)

  pub lead-stop : (y : EventKind) → x ≡ Some y → eqb (kind_number k) (kind_number y) ≡ false → lead_kind k (x ∷ xs) ≡ 0
  unfolding lead_kind
  lead-stop y h e = rw (h, e)

-- m are counted, and those from i on are to come
module _ (kinds : List (Option EventKind)) (to : ℕ) (k : EventKind) (m t i : ℕ) (g : m + lead_kind k (slice i to kinds) ≡ t) where
  pub count-end : to ≤ i → m ≡ t
  count-end h =
      let l : length (take to kinds) ≤ i = simp length-take (omega arith) in
      omega (arith, g, ap (lead_kind k) (drop_of_length-le (take to kinds) l) ∙ lead-none k)

  module _ (below : i < to) (fits : to ≤ length kinds) where
    next : slice i to kinds ≡ get_or kinds i None ∷ slice (i + 1) to kinds
    next = slice_front (λ l. l) (λ l. l) to i i kinds None below fits

    pub count-pass : get_or kinds i None ≡ None → m + lead_kind k (slice (i + 1) to kinds) ≡ t
    count-pass h = omega (arith, g, ap (lead_kind k) next ∙ lead-pass k (get_or kinds i None) (slice (i + 1) to kinds) h)

    module _ (y : EventKind) (h : get_or kinds i None ≡ Some y) where
      pub count_same : eqb (kind_number k) (kind_number y) ≡ true → m + 1 + lead_kind k (slice (i + 1) to kinds) ≡ t
      count_same e = omega (arith, g, ap (lead_kind k) next ∙ lead-more k (get_or kinds i None) (slice (i + 1) to kinds) y h e)

      pub count-other : eqb (kind_number k) (kind_number y) ≡ false → m ≡ t
      count-other e = omega (arith, g, ap (lead_kind k) next ∙ lead-stop k (get_or kinds i None) (slice (i + 1) to kinds) y h e)

-- ---- the run of the objects

map-drop : {A B : Type 0} (f : A → B) (n : ℕ) (l : List A) → drop n (map f l) ≡ map f (drop n l)
map-drop f zero l = refl
map-drop f (suc n) [] = refl
map-drop f (suc n) (x ∷ xs) = map-drop f n xs

module _ (k : EventKind) where
  carrying : (h : Held) (hs : List Held) → h.carried ≡ true → lead_kind k (map carried_kind hs) ≡ lead (kind_number k) (carried_objects hs)
      → carried_kind h ≡ Some (kind_of h.event) → (b : Bool) → eqb (kind_number k) (kind_number (kind_of h.event)) ≡ b
      → lead_kind k (carried_kind h ∷ map carried_kind hs) ≡ lead (kind_number k) (carried_objects (h ∷ hs))
  carrying h hs t e same true q =
      lead-more k (carried_kind h) (map carried_kind hs) (kind_of h.event) same q
      ∙ ap suc e
      ∙ sym (lead-same (event_object h.event) (carried_objects hs) (kind_number k) (sym (eqb-true (kind_number k) (kind_number (kind_of h.event)) q)))
      ∙ ap (lead (kind_number k)) (sym (carried-yes h hs t))
  carrying h hs t e same false q =
      lead-stop k (carried_kind h) (map carried_kind hs) (kind_of h.event) same q
      ∙ sym (lead-other (event_object h.event) (carried_objects hs) (kind_number k) (λ z. eqb-false (kind_number k) (kind_number (kind_of h.event)) q (sym z)))
      ∙ ap (lead (kind_number k)) (sym (carried-yes h hs t))

  turn : (h : Held) (hs : List Held) (b : Bool) → h.carried ≡ b → lead_kind k (map carried_kind hs) ≡ lead (kind_number k) (carried_objects hs)
      → lead_kind k (carried_kind h ∷ map carried_kind hs) ≡ lead (kind_number k) (carried_objects (h ∷ hs))
  turn h hs true t e =
      let same : carried_kind h ≡ Some (kind_of h.event) = rw t in
      carrying h hs t e same (eqb (kind_number k) (kind_number (kind_of h.event))) refl
  turn h hs false t e =
      let none : carried_kind h ≡ None = rw t in
      lead-pass k (carried_kind h) (map carried_kind hs) none ∙ e ∙ ap (lead (kind_number k)) (sym (carried-no h hs t))

  pub lead-kinds : (hs : List Held) → lead_kind k (map carried_kind hs) ≡ lead (kind_number k) (carried_objects hs)
  lead-kinds [] = lead-none k ∙ sym (lead-nil (kind_number k)) ∙ ap (lead (kind_number k)) (sym carried-nil)
  lead-kinds (h ∷ hs) = turn h hs h.carried refl (lead-kinds hs)

  pub lead-from : (held : List Held) (kinds : List (Option EventKind)) (n i : ℕ) → take n kinds ≡ map carried_kind (take n held)
      → lead_kind k (slice i n kinds) ≡ lead (kind_number k) (carried_objects (slice i n held))
  lead-from held kinds n i e =
      ap (λ (l : List (Option EventKind)). lead_kind k (drop i l)) e
      ∙ ap (lead_kind k) (map-drop carried_kind i (take n held))
      ∙ lead-kinds (slice i n held)

-- ---- the kinds of the events in lent words

abbrev pub kinds : List ℕ → List (Option EventKind)
kinds ws = map carried_kind (slots_in ws)

pub kinds-long : (ws : List ℕ) (to : ℕ) → to ≤ events_max → to ≤ length (kinds ws)
kinds-long ws to h = omega (arith, length-map (slots_in ws) carried_kind, slots_length ws)

-- the kind at a place
pub kind_at : (ws : List ℕ) (i : ℕ) (k : Option EventKind) (h : Held) → k ≡ carried_kind h → h ≡ get_or (slots_in ws) i no_held → get_or (kinds ws) i None ≡ k
kind_at ws i k h e l = get_or-map carried_kind (slots_in ws) i no_held ∙ sym (e ∙ ap carried_kind l)

-- a run of kinds is the run of the objects
pub run_of : (ws : List ℕ) (k : EventKind) (n i : ℕ) → lead_kind k (slice i n (kinds ws)) ≡ lead (kind_number k) (carried_objects (slice i n (slots_in ws)))
run_of ws k n i = lead-from k (slots_in ws) (kinds ws) n i (map-take carried_kind n (slots_in ws))
