-- One object header of a READ: what it asks for, or its fault.
-- Assumes nothing.
use Rattle.std.specs.Prelude.{ℕ, ◌+◌, ◌-◌, not, Option, Some, None, Result, Ok, Err, ◌&&◌, ◌||◌, List, [], ◌∷◌, ltb, leb, eqb, length, get_or}
use Rattle.laws.specs.First.{first, ◌⇒◌}
use Rattle.octets.specs.Bytes.{value_at}
use Rattle.application.specs.declared.Fault.{Fault}
use Rattle.application.specs.declared.Fault.TheVariants.{ObjectUnknown, BadParameter}
use Rattle.read_headers.specs.declared.Header.{Header}
use Rattle.read_headers.specs.declared.Front.{Front}
use Rattle.read_headers.specs.declared.PointKind.{PointKind}
use Rattle.read_headers.specs.declared.PointKind.TheVariants.{Binary, Analog}
use Rattle.read_headers.specs.declared.Object.{Object}
use Rattle.read_headers.specs.declared.Object.TheVariants.{Class, Points}

-- ---- what a header asks for: events of a class 1 to 3, and so many binaries and analogs from a first one on

abbrev pub events_of : ℕ → Header
events_of c = record { class = Some c; binary = 0; binaries = 0; analog = 0; analogs = 0 }

abbrev pub binaries_from : ℕ → ℕ → Header
binaries_from start n = record { class = None; binary = start; binaries = n; analog = 0; analogs = 0 }

abbrev pub analogs_from : ℕ → ℕ → Header
analogs_from start n = record { class = None; binary = 0; binaries = 0; analog = start; analogs = n }

-- points of one of the two kinds, by a first one and how many
abbrev pub points_from : PointKind → ℕ → ℕ → Header
points_from Binary start n = binaries_from start n
points_from Analog start n = analogs_from start n

-- "class 0 gives binaries, then analogs": all of them
abbrev pub every_point : ℕ → ℕ → Header
every_point nb na = record { class = None; binary = 0; binaries = nb; analog = 0; analogs = na }

-- ---- "60 var 1 to 4 with qualifier 06; 1 var 0 or 2 and 30 var 0 with 06, 00, 01"

-- the object of a group and a variation; 60 var 1 is class 0, var 2 to 4 are the classes 1 to 3
abbrev pub object_of : ℕ → ℕ → Option Object
object_of g v =
    first
    ((eqb g 60 && (leb 1 v && leb v 4)) ⇒ Some (Class (v - 1))
    ∷ (eqb g 1 && (eqb v 0 || eqb v 2)) ⇒ Some (Points Binary)
    ∷ (eqb g 30 && eqb v 0) ⇒ Some (Points Analog)
    ∷ [])
    None

-- a header of so many bytes, or "2.2"
abbrev pub asked : Header → ℕ → Result Front Fault
asked h n = Ok (record { header = h; size = n })

abbrev pub bad : Result Front Fault
bad = Err BadParameter

-- a class, where there are nb binaries and na analogs: qualifier 06
abbrev pub class_header : ℕ → ℕ → ℕ → List ℕ → Result Front Fault
class_header nb na c s =
    first
    (not (eqb (get_or s 2 0) 6) ⇒ bad
    ∷ eqb c 0 ⇒ asked (every_point nb na) 3
    ∷ [])
    (asked (events_of c) 3)

-- "range cut short, start above stop or stop no such point 2.2": of the n points there are, the header having `size` of the bytes left
abbrev pub range_header : PointKind → ℕ → (left size start stop : ℕ) → Result Front Fault
range_header a n left size start stop =
    first
    (ltb left size ⇒ bad
    ∷ ltb stop start ⇒ bad
    ∷ leb n stop ⇒ bad
    ∷ [])
    (asked (points_from a start (stop - start + 1)) size)

-- points: qualifier 06, all; 00, a start and a stop of one byte; 01, of two bytes; another "2.2"
abbrev pub point_header : PointKind → ℕ → List ℕ → Result Front Fault
point_header a n s =
    first
    (eqb (get_or s 2 0) 6 ⇒ asked (points_from a 0 n) 3
    ∷ eqb (get_or s 2 0) 0 ⇒ range_header a n (length s) 5 (get_or s 3 0) (get_or s 4 0)
    ∷ eqb (get_or s 2 0) 1 ⇒ range_header a n (length s) 7 (value_at 2 3 s) (value_at 2 5 s)
    ∷ [])
    bad

abbrev pub by_object : Option Object → ℕ → ℕ → List ℕ → Result Front Fault
by_object (Some (Class c)) nb na s = class_header nb na c s
by_object (Some (Points Binary)) nb na s = point_header Binary nb s
by_object (Some (Points Analog)) nb na s = point_header Analog na s
by_object None nb na s = Err ObjectUnknown

-- the header at the front of the bytes: "under 3 bytes 2.2, object 2.1, qualifier 2.2, range .. 2.2"
abbrev pub front_header : ℕ → ℕ → List ℕ → Result Front Fault
front_header nb na s =
    first
    (ltb (length s) 3 ⇒ bad
    ∷ [])
    (by_object (object_of (get_or s 0 0) (get_or s 1 0)) nb na s)
