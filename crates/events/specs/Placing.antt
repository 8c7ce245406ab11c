-- Which events are asked for, and whether one fits into a response (document 01, READ). Said once over all kinds of events.
-- Assumes nothing.
use Rattle.std.specs.Prelude.{ℕ, ◌+◌, ◌-◌, Bool, false, not, cond, [], ◌∷◌, leb, eqb, Option, Some, None}
use Rattle.laws.specs.First.{first, ◌⇒◌}
use Rattle.points.specs.declared.Value.{Value}
use Rattle.points.specs.declared.Value.TheVariants as V
use Rattle.events.specs.declared.Shown.{Shown}
use Rattle.events.specs.declared.Shown.TheVariants.{State, Analog}
use Rattle.events.specs.declared.Event.{Event}
use Rattle.events.specs.declared.EventKind.{EventKind}
use Rattle.events.specs.declared.EventKind.TheVariants.{Binary, Int32, Int16, Float32}
use Rattle.events.specs.declared.Classes.{Classes}
use Rattle.events.specs.declared.Space.{Space}
use Rattle.events.specs.declared.Placement.{Placement}
use Rattle.events.specs.declared.Placement.TheVariants.{Pass, Stop, Carry}

-- the class is one of those asked for
abbrev pub is_asked : Classes → ℕ → Bool
is_asked m c = first (eqb c 1 ⇒ m.one ∷ eqb c 2 ⇒ m.two ∷ eqb c 3 ⇒ m.three ∷ []) false

-- the kind of an event's object: 2 var 2, 32 var 3 (32-bit), 32 var 4 (16-bit) or 32 var 7 (float)
abbrev pub value_kind : Value → EventKind
value_kind (V.Int32 z) = Int32
value_kind (V.Int16 z) = Int16
value_kind (V.Float32 x) = Float32

abbrev pub shown_kind : Shown → EventKind
shown_kind (State s) = Binary
shown_kind (Analog v) = value_kind v

abbrev pub kind_of : Event → EventKind
kind_of e = shown_kind e.shown

-- the kinds as numbers, by which objects are compared: none is 0
abbrev pub kind_number : EventKind → ℕ
kind_number Binary = 1
kind_number Int32 = 2
kind_number Int16 = 3
kind_number Float32 = 4

abbrev pub last_number : Option EventKind → ℕ
last_number None = 0
last_number (Some k) = kind_number k

-- the bytes of an object with its index: index 2, flags 1, value 0, 4 or 2, time 6
abbrev pub object_size : EventKind → ℕ
object_size Binary = 9
object_size Int32 = 13
object_size Int16 = 11
object_size Float32 = 13

-- a response with so many bytes left for events, and none yet
abbrev pub empty_space : ℕ → Space
empty_space room = record { left = room; kind = None }

-- "neighbours of one kind under one header", which has 5 bytes
unfoldable pub cost_of : Space → EventKind → ℕ
cost_of k n = cond (eqb (kind_number n) (last_number k.kind)) (object_size n) (object_size n + 5)

-- the event would fit, and the response with it
unfoldable pub fits : Space → Event → Bool
fits k e = leb (cost_of k (kind_of e)) k.left

unfoldable pub space_after : Space → Event → Space
space_after k e = record { left = k.left - cost_of k (kind_of e); kind = Some (kind_of e) }

-- what the selection does with an event: "oldest first, each once, up to the first that would not fit beside the static part"
unfoldable pub place_event : Classes → Space → Event → Placement
place_event m k e = first (not (is_asked m e.class) ⇒ Pass ∷ not (fits k e) ⇒ Stop ∷ []) (Carry (space_after k e))
