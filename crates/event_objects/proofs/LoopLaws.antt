-- Laws of the loop over the held events.
-- Assumes nothing.
use mathlib.Core.Path.{◌≡◌, sym, ap, ◌∙◌}
use mathlib.Core.Bool.{Bool, true, false}
use mathlib.Core.List.{List, [], ◌∷◌}
use Prim.Native.Nat.{ℕ, ◌+◌, ◌≤◌, ◌<◌, min}
use native.Mathlib.Omega.{arith}
use lib.ListN.{length, take, get_or, length-take, drop_of_length-le}
use lib.Seq.{slice}
use Rattle.laws.proofs.Loops.{slice_front}
use Rattle.laws.proofs.Filling.{clamped}
use Rattle.laws.specs.Limits.{events_max}
use Rattle.octets.specs.Bytes.{splice}
use Rattle.objects.proofs.WriterLaws.{Writing, writing_start, writing-end, writing-passed}
use Rattle.events.specs.BufferView.{Buffer, buffer_view, no_held}
use Rattle.events.specs.declared.Held.{Held}
use Rattle.event_store.specs.declared.BufferStatus.{BufferStatus}
use Rattle.event_store.specs.EventWords.{slots_in, buffer_view_in}
use Rattle.event_store.proofs.EventLaws.{slots_length}
use Rattle.event_store.proofs.LentLaws.{status_of, clamped-in}
use Rattle.event_objects.specs.Events.{event_heading, event_object, carried_objects, carried_bytes}
use Rattle.event_objects.proofs.EventLaws.{carried-nil, carried-yes, carried-no, heading-length, none_first}

-- nothing is left
pub over : (n i : ℕ) (ys : List Held) → n ≤ i → carried_objects (slice i n ys) ≡ []
over n i ys h =
    let l : length (take n ys) ≤ i = simp length-take (omega arith) in
    ap carried_objects (drop_of_length-le (take n ys) l) ∙ carried-nil

module _ (n i : ℕ) (ys : List Held) (below : i < n) (fits : n ≤ length ys) where
  head : slice i n ys ≡ get_or ys i no_held ∷ slice (i + 1) n ys
  head = slice_front (λ l. l) (λ l. l) n i i ys no_held below fits

  pub yes : (get_or ys i no_held).carried ≡ true → carried_objects (slice i n ys) ≡ event_object (get_or ys i no_held).event ∷ carried_objects (slice (i + 1) n ys)
  yes h = ap carried_objects head ∙ carried-yes (get_or ys i no_held) (slice (i + 1) n ys) h

  pub no : (get_or ys i no_held).carried ≡ false → carried_objects (slice i n ys) ≡ carried_objects (slice (i + 1) n ys)
  no h = ap carried_objects head ∙ carried-no (get_or ys i no_held) (slice (i + 1) n ys) h

-- the i-th event in lent words, as it is loaded: its object is the next, or it has none
module _ (ws : List ℕ) (n i : ℕ) (short : n ≤ events_max) (below : i < n) where
  fits : n ≤ length (slots_in ws)
  fits = omega (arith, slots_length ws)

  pub loaded : (h : Held) → h ≡ get_or (slots_in ws) i no_held → (b : Bool) → b ≡ (get_or (slots_in ws) i no_held).carried → b ≡ true
      → carried_objects (slice i n (slots_in ws)) ≡ event_object h.event ∷ carried_objects (slice (i + 1) n (slots_in ws))
  loaded h e b m t =
      yes n i (slots_in ws) below fits (sym m ∙ t) ∙ ap (λ (x : Held). event_object x.event ∷ carried_objects (slice (i + 1) n (slots_in ws))) (sym e)

  pub skipped : (b : Bool) → b ≡ (get_or (slots_in ws) i no_held).carried → b ≡ false
      → carried_objects (slice i n (slots_in ws)) ≡ carried_objects (slice (i + 1) n (slots_in ws))
  skipped b m t = no n i (slots_in ws) below fits (sym m ∙ t)

-- the objects of the slots from i on are to be put at `to`, after one of the kind `last`
abbrev pub Putting : List ℕ → ℕ → Buffer → ℕ → List ℕ → ℕ → ℕ → ℕ → Type 0
Putting out₀ at b n out to last i = Writing event_heading 5 out₀ at (carried_objects (buffer_view b).held) out to last (carried_objects (slice i n b.held))

module _ (out₀ : List ℕ) (at : ℕ) (b : Buffer) (n : ℕ) (slots : length b.held ≡ events_max) (least : n ≡ min b.count 256) where
  pub begun : at + length (carried_bytes (buffer_view b).held) ≤ length out₀ → Putting out₀ at b n out₀ at 0 0
  unfolding carried_bytes buffer_view
  begun h =
      writing-passed event_heading 5 heading-length (writing_start event_heading 5 heading-length out₀ at (carried_objects (buffer_view b).held) (none_first (buffer_view b).held) h)
      (carried_objects (take n b.held)) (ap carried_objects (sym (clamped b.held events_max b.count n slots least)))

  pub written : (out : List ℕ) (to last i : ℕ) → Putting out₀ at b n out to last i → n ≤ i
      → (to ≡ at + length (carried_bytes (buffer_view b).held)) × (out ≡ splice out₀ at (carried_bytes (buffer_view b).held))
  unfolding carried_bytes
  written out to last i g h =
      writing-end event_heading 5 heading-length out₀ at (carried_objects (buffer_view b).held) (none_first (buffer_view b).held) out to last _ g (over n i b.held h)

-- a clamped count holds what the count holds
pub held_of : (ws : List ℕ) (t : BufferStatus) (n : ℕ) → n ≡ min t.count events_max → (buffer_view_in ws (status_of n)).held ≡ (buffer_view_in ws t).held
unfolding buffer_view
held_of ws t n least = clamped-in ws t n least
