-- The events that a response carries, as bytes: "Events are 2 var 2, 32 var 3 (32-bit), 4 (16-bit), 7 (float), qualifier 28,
-- neighbours of one kind under one header."
-- Assumes nothing.
use Rattle.std.specs.Prelude.{ℕ, suc, cond, List, [], ◌∷◌, ◌++◌, map, eqb, Option, Some, None}
use Rattle.laws.specs.First.{first, ◌⇒◌}
use Rattle.laws.specs.Lists.{filter}
use Rattle.octets.specs.Bytes.{le}
use Rattle.objects.specs.Values.{value_bytes, state_byte}
use Rattle.objects.specs.Runs.{Object, Heading, encoded}
use Rattle.events.specs.Placing.{kind_of, kind_number}
use Rattle.events.specs.BufferView.{is_carried}
use Rattle.events.specs.declared.Shown.{Shown}
use Rattle.events.specs.declared.Shown.TheVariants.{State, Analog}
use Rattle.events.specs.declared.Event.{Event}
use Rattle.events.specs.declared.EventKind.{EventKind}
use Rattle.events.specs.declared.Held.{Held}

-- by the kind's number (`Placing.kind_number`): 1 binary, 2 a 32-bit, 3 a 16-bit, 4 a float analog
abbrev pub event_group : ℕ → ℕ
event_group k = cond (eqb k 1) 2 32

abbrev pub event_variation : ℕ → ℕ
event_variation k = first (eqb k 1 ⇒ 2 ∷ eqb k 2 ⇒ 3 ∷ eqb k 3 ⇒ 4 ∷ []) 7

-- group, variation, qualifier 28, the number of objects in two bytes
abbrev pub event_heading : Heading
event_heading k index n = event_group k ∷ event_variation k ∷ 40 ∷ le 2 n

-- a binary's flags have its state
abbrev pub flags_byte : Shown → ℕ → ℕ
flags_byte (State on) flags = state_byte on flags
flags_byte (Analog v) flags = flags

-- a binary has no value
abbrev pub shown_bytes : Shown → List ℕ
shown_bytes (State on) = []
shown_bytes (Analog v) = value_bytes v

-- index in two bytes, flags, value, time in six bytes
unfoldable pub event_bytes : Event → List ℕ
event_bytes e = le 2 e.point ++ (flags_byte e.shown e.flags ∷ (shown_bytes e.shown ++ le 6 e.time))

abbrev pub event_object : Event → Object
event_object e = record { kind = kind_number (kind_of e); index = e.point; bytes = event_bytes e }

-- these events, "neighbours of one kind under one header"
unfoldable pub events_bytes : List Event → List ℕ
events_bytes es = encoded event_heading (map event_object es)

-- of the held events, oldest first, those that the response carries
unfoldable pub carried_events : List Held → List Event
carried_events hs = map (λ (h : Held). h.event) (filter is_carried hs)

unfoldable pub carried_objects : List Held → List Object
carried_objects hs = map event_object (carried_events hs)

unfoldable pub carried_bytes : List Held → List ℕ
carried_bytes hs = encoded event_heading (carried_objects hs)

-- ---- the same by kinds

-- the kind of a held event's object, if the response carries it
abbrev pub carried_kind : Held → Option EventKind
carried_kind h = cond h.carried (Some (kind_of h.event)) None

-- how many of the kind stand in front, those that are not carried passed over
unfoldable pub lead_kind : EventKind → List (Option EventKind) → ℕ
lead_kind k [] = 0
lead_kind k (None ∷ xs) = lead_kind k xs
lead_kind k (Some x ∷ xs) = cond (eqb (kind_number k) (kind_number x)) (suc (lead_kind k xs)) 0
