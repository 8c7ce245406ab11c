-- The event buffer as its contracts see it: the events held, oldest first, and the overflow indication.
-- Assumes nothing.
use Rattle.std.specs.Prelude.{ℕ, Bool, true, false, cond, not, ◌&&◌, List, [], ◌∷◌, ◌++◌, map, ltb, eqb, length, take}
use Rattle.laws.specs.First.{first, ◌⇒◌}
use Rattle.laws.specs.Limits.{events_max}
use Rattle.laws.specs.Lists.{filter, some}
use Rattle.events.specs.declared.Event.{Event}
use Rattle.events.specs.declared.Held.{Held}
use Rattle.events.specs.declared.Shown.TheVariants.{State}
use Rattle.events.specs.declared.Classes.{Classes}
use Rattle.events.specs.declared.Space.{Space}
use Rattle.events.specs.Placing.{is_asked, empty_space, fits, space_after}

pub record BufferView : Type 0 where
  pub held : List Held
  pub overflow : Bool

-- the slots that events are kept in, how many of them are in use, and whether events were dropped
pub record Buffer : Type 0 where
  pub held : List Held
  pub count : ℕ
  pub overflow : Bool

-- the first `count` slots; a count past them all holds them all, so that every buffer has a meaning
unfoldable pub buffer_view : Buffer → BufferView
buffer_view b = record { held = take b.count b.held; overflow = b.overflow }

-- what a read past the end of an array of held events counts as
abbrev pub no_held : Held
no_held = record { event = record { point = 0; shown = State false; flags = 0; time = 0; class = 0 }; carried = false }

-- an event as it is when it is raised
abbrev pub newly : Event → Held
newly e = record { event = e; carried = false }

-- a held event with another mark
abbrev pub marked : Bool → Held → Held
marked c h = record { event = h.event; carried = c }

-- the same buffer, its held events changed as a list
abbrev pub edited : (List Held → List Held) → BufferView → BufferView
edited G q = record { held = G q.held; overflow = q.overflow }

-- "An event raised while 256 are held is dropped; otherwise it is held."
unfoldable pub pushed : Event → BufferView → BufferView
pushed e q =
    cond (ltb (length q.held) events_max)
    (record { held = q.held ++ (newly e ∷ []); overflow = q.overflow })
    (record { held = q.held; overflow = true })

-- a new request: no event is carried any more
abbrev pub cleared : BufferView → BufferView
cleared = edited (map (marked false))

-- "Events come first, oldest first, each once, up to the first that would not fit": of unmarked events, those carried are marked
unfoldable pub carry : Classes → Space → List Held → List Held
carry m k [] = []
carry m k (h ∷ hs) =
    first
    (not (is_asked m h.event.class) ⇒ (h ∷ carry m k hs)
    ∷ not (fits k h.event) ⇒ (h ∷ hs)
    ∷ [])
    (marked true h ∷ carry m (space_after k h.event) hs)

-- a response with so many bytes left for events
abbrev pub mark_carried : Classes → ℕ → BufferView → BufferView
mark_carried m room q = edited (carry m (empty_space room)) (cleared q)

abbrev pub is_carried : Held → Bool
is_carried h = h.carried

abbrev pub not_carried : Held → Bool
not_carried h = not h.carried

-- "releases exactly the events carried"
abbrev pub released : BufferView → BufferView
released = edited (filter not_carried)

-- "events of that class held and not in this response"
abbrev pub is_pending : ℕ → Held → Bool
is_pending c h = not_carried h && eqb h.event.class c

abbrev pub classes_pending : List Held → Classes
classes_pending hs = record { one = some (is_pending 1) hs; two = some (is_pending 2) hs; three = some (is_pending 3) hs }
