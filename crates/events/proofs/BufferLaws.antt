-- Laws of the buffer's operations, stated on the list of its slots.
-- Assumes nothing.
use mathlib.Core.Path.{◌≡◌, sym, ap, ◌∙◌}
use mathlib.Core.Bool.{true}
use mathlib.Core.List.{List, [], ◌∷◌, ◌++◌}
use Prim.Native.Nat.{ℕ, ◌+◌, ◌≤◌, ◌<◌, min}
use native.Mathlib.Numerals.{add-one}
use native.Mathlib.Omega.{arith}
use borrow.Author.Tests.{lt-ltb}
use lib.ListN.{length, take, get_or, set, length-take, length-set}
use lib.Seq.{slice, slice_empty, take-suc-set}
use Rattle.laws.specs.Limits.{events_max}
use Rattle.laws.proofs.Loops.{take-slice, slice-after-store, slice-after-skip, slice-after-keep, slice-at-end}
use Rattle.laws.proofs.Filling.{clamped}
use Rattle.events.specs.BufferView.{Buffer, buffer_view, no_held, newly, edited, pushed}
use Rattle.events.specs.declared.Event.{Event}
use Rattle.events.specs.declared.Held.{Held}

module _ (b : Buffer) (e : Event) (long : length b.held ≡ events_max) where
  pub pushed-in : b.count < events_max → buffer_view (record { held = set b.held b.count (newly e); count = b.count + 1; overflow = b.overflow }) ≡ pushed e (buffer_view b)
  unfolding pushed buffer_view
  pushed-in h =
      let n : length (take b.count b.held) ≡ b.count = length-take b.count b.held ∙ omega arith in
      let s : take (b.count + 1) (set b.held b.count (newly e)) ≡ take b.count b.held ++ (newly e ∷ []) =
      rw add-one (take-suc-set b.held b.count (newly e) (omega arith)) in
      rw (n, lt-ltb b.count events_max h, s)

  pub pushed-out : events_max ≤ b.count → buffer_view (record { held = b.held; count = b.count; overflow = true }) ≡ pushed e (buffer_view b)
  unfolding pushed buffer_view
  pushed-out h =
      let n : length (take b.count b.held) ≡ events_max = length-take b.count b.held ∙ omega arith in
      rw n

-- what a loop over the first n slots knows: `next` is the buffer as it is, `from` as it was; i slots are read and j written
pub record Going (G H : List Held → List Held) (n : ℕ) (from next : Buffer) (i j : ℕ) : Type 0 where
  pub read : i ≤ n
  pub written : j ≤ i
  pub slots : length next.held ≡ events_max
  pub count : next.count ≡ from.count
  pub overflow : next.overflow ≡ from.overflow
  pub rest : take j next.held ++ H (slice i n next.held) ≡ G (take n from.held)

module _ (G H K : List Held → List Held) (n : ℕ) (from next : Buffer) (i j : ℕ) (short : n ≤ events_max) (below : i < n) (g : Going G H n from next i j) where
  -- a turn that stores v
  pub stores : (v : Held) → H (get_or next.held i no_held ∷ slice (i + 1) n next.held) ≡ v ∷ K (slice (i + 1) n next.held)
      → Going G K n from (record { held = set next.held j v; count = next.count; overflow = next.overflow }) (i + 1) (j + 1)
  stores v e =
      record {
        read = omega arith;
        written = omega arith;
        slots = length-set next.held j v ∙ g.slots;
        count = g.count;
        overflow = g.overflow;
        rest = slice-after-store H K n i j next.held no_held below (omega arith) v g.written e ∙ g.rest;
      }

  -- a turn that stores nothing and passes its slot over
  pub passes : H (get_or next.held i no_held ∷ slice (i + 1) n next.held) ≡ K (slice (i + 1) n next.held) → Going G K n from next (i + 1) j
  passes e =
      record {
        read = omega arith;
        written = omega arith;
        slots = g.slots;
        count = g.count;
        overflow = g.overflow;
        rest = slice-after-skip H K n i j next.held no_held below (omega arith) e ∙ g.rest;
      }

  -- a turn that leaves its slot as it is
  pub keeps : i ≡ j → H (get_or next.held i no_held ∷ slice (i + 1) n next.held) ≡ get_or next.held i no_held ∷ K (slice (i + 1) n next.held)
      → Going G K n from next (i + 1) (i + 1)
  keeps same e =
      record {
        read = omega arith;
        written = omega arith;
        slots = g.slots;
        count = g.count;
        overflow = g.overflow;
        rest =
            slice-after-keep H K n i j next.held no_held below (omega arith) e
            ∙ ap (λ (m : ℕ). take m next.held ++ H (slice i n next.held)) same
            ∙ g.rest;
      }

-- where the count is set to the slots written
pub shortened : (G H : List Held → List Held) (n : ℕ) (from next : Buffer) (i j : ℕ) → length from.held ≡ events_max → n ≡ min from.count events_max
    → n ≤ i → H [] ≡ [] → Going G H n from next i j
    → buffer_view (record { held = next.held; count = j; overflow = next.overflow }) ≡ edited G (buffer_view from)
unfolding buffer_view
shortened G H n from next i j slots least over none g =
    λ k.
    record {
      held =
          (sym (slice-at-end H n i j next.held g.read over none)
          ∙ g.rest
          ∙ ap G (clamped from.held events_max from.count n slots least)) k;
      overflow = g.overflow k;
    }

module _ (G H : List Held → List Held) (n : ℕ) (from next : Buffer) (i : ℕ) (slots : length from.held ≡ events_max) (least : n ≡ min from.count events_max) (g : Going G H n from next i i) where
  -- where the count stays, and the specification leaves what is to come
  pub halted : H (slice i n next.held) ≡ slice i n next.held → buffer_view next ≡ edited G (buffer_view from)
  unfolding buffer_view
  halted e =
      let m : n ≡ min next.count events_max = omega (arith, g.count) in
      λ k.
      record {
        held =
            (sym (clamped next.held events_max next.count n g.slots m)
            ∙ sym (take-slice n i next.held g.read)
            ∙ ap (λ (r : List Held). take i next.held ++ r) (sym e)
            ∙ g.rest
            ∙ ap G (clamped from.held events_max from.count n slots least)) k;
        overflow = g.overflow k;
      }

  -- where every slot was written and the count stays
  pub rewritten : n ≤ i → H [] ≡ [] → buffer_view next ≡ edited G (buffer_view from)
  rewritten over none =
      let same : i ≡ n = omega (arith, g.read) in
      let gone : slice i n next.held ≡ [] = ap (λ (m : ℕ). slice m n next.held) same ∙ slice_empty n next.held in
      halted (ap H gone ∙ none ∙ sym gone)
