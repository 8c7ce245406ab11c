-- What a READ is answered with behind control, function and indications: "Events come first", "then static parts in the order asked".
-- Assumes nothing.
use Rattle.std.specs.Prelude.{◌≡◌, ℕ, ◌+◌, ◌-◌, Result, Ok, Err, List, [], ◌++◌, length}
use Rattle.laws.specs.Limits.{fragment_max}
use Rattle.octets.specs.Bytes.{splice}
use Rattle.points.specs.PointsView.{PointsView}
use Rattle.events.specs.declared.Classes.{Classes}
use Rattle.events.specs.BufferView.{BufferView, cleared, mark_carried}
use Rattle.application.specs.declared.Fault.{Fault}
use Rattle.read_headers.specs.declared.Header.{Header}
use Rattle.read_headers.specs.Parse.{Parsed, headers, fault, fault_in, headers_in, asks_for}
use Rattle.event_objects.specs.Events.{carried_bytes}
use Rattle.static_objects.specs.Static.{static_bytes, asked_of}
use Rattle.read.specs.declared.ReadRequest.{ReadRequest}
use Rattle.read.specs.declared.Reply.{Reply}

-- the event classes asked for
abbrev pub classes_of : List Header → Classes
classes_of hs = record { one = asks_for 1 hs; two = asks_for 2 hs; three = asks_for 3 hs }

-- what is known of a READ before it is answered: its fault, or the bytes of its static part and its event classes
abbrev pub request_of : PointsView → Parsed → Result ReadRequest Fault
request_of i (headers hs) = Ok (record { size = length (static_bytes i hs); classes = classes_of hs })
request_of i (fault f) = Err f

-- the static part of the response to the bytes s of a READ
abbrev pub static_part : PointsView → List ℕ → List ℕ
static_part i s = static_bytes i (headers_in (asked_of i s))

-- the bytes of the objects: 2,048 less the four bytes in front of them
abbrev pub response_objects_max : ℕ
response_objects_max = fragment_max - 4

-- the bytes left for events beside the static part
abbrev pub room_beside : PointsView → List Header → ℕ
room_beside i hs = response_objects_max - length (static_bytes i hs)

-- the event buffer: the events that the response carries are marked; a fault carries none
abbrev pub buffer_after : PointsView → Parsed → BufferView → BufferView
buffer_after i (headers hs) q = mark_carried (classes_of hs) (room_beside i hs) q
buffer_after i (fault f) q = cleared q

-- the objects; "A fault returns no objects"
abbrev pub response_objects : PointsView → Parsed → BufferView → List ℕ
response_objects i (headers hs) q = carried_bytes (buffer_after i (headers hs) q).held ++ static_bytes i hs
response_objects i (fault f) q = []

-- r is the reply to the bytes s of a READ, of the inputs i and the events q, that leaves the events q₁; the lent bytes were out and are out₁
pub record RepliedAs (i : PointsView) (s : List ℕ) (q : BufferView) (out : List ℕ) (r : Reply) (q₁ : BufferView) (out₁ : List ℕ) : Type 0 where
  pub fault : r.fault ≡ fault_in (asked_of i s)
  pub events : q₁ ≡ buffer_after i (asked_of i s) q
  pub size : r.size ≡ 4 + length (response_objects i (asked_of i s) q)
  pub bytes : out₁ ≡ splice out 4 (response_objects i (asked_of i s) q)
