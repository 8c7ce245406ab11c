-- The static part of a response: "Static is 1 var 2 and 30 var 1, 2, 5, qualifier 01, neighbours likewise but not across request
-- headers".
-- Assumes nothing.
use Rattle.std.specs.Prelude.{ℕ, zero, suc, ◌+◌, ◌-◌, List, [], ◌∷◌, ◌++◌, ltb, length, get_or}
use Rattle.laws.specs.First.{first, ◌⇒◌}
use Rattle.laws.specs.Limits.{fragment_max}
use Rattle.octets.specs.Bytes.{le}
use Rattle.points.specs.PointsView.{PointsView, no_binary, no_analog}
use Rattle.points.specs.declared.Value.{Value}
use Rattle.points.specs.declared.Value.TheVariants.{Int32, Int16, Float32}
use Rattle.objects.specs.Values.{value_bytes, state_byte}
use Rattle.objects.specs.Runs.{Object, Heading, encoded}
use Rattle.application.specs.declared.Fault.TheVariants.{BadParameter}
use Rattle.read_headers.specs.declared.Header.{Header}
use Rattle.read_headers.specs.Parse.{Parsed, headers, fault, parse}
use Rattle.read_headers.specs.declared.PointKind.{PointKind}
use Rattle.read_headers.specs.declared.PointKind.TheVariants as K
use Rattle.static_objects.specs.declared.ShownPoint.{ShownPoint}
use Rattle.static_objects.specs.declared.ShownPoint.TheVariants.{Binary, Analog}

-- what the n-th binary or analog input shows: flags with the state, or flags and a value
abbrev pub shown_at : PointsView → PointKind → ℕ → ShownPoint
shown_at i K.Binary n = Binary (state_byte (get_or i.binaries n no_binary).state (get_or i.binaries n no_binary).flags)
shown_at i K.Analog n = Analog (get_or i.analogs n no_analog).flags (get_or i.analogs n no_analog).value

-- 1 var 2; 30 var 1 (32-bit), 2 (16-bit), 5 (float)
abbrev pub static_group : PointKind → ℕ
static_group K.Binary = 1
static_group K.Analog = 30

abbrev pub value_variation : Value → ℕ
value_variation (Int32 z) = 1
value_variation (Int16 z) = 2
value_variation (Float32 x) = 5

abbrev pub static_variation : ShownPoint → ℕ
static_variation (Binary flags) = 2
static_variation (Analog flags v) = value_variation v

unfoldable pub point_bytes : ShownPoint → List ℕ
point_bytes (Binary flags) = flags ∷ []
point_bytes (Analog flags v) = flags ∷ value_bytes v

-- group, variation, qualifier 01, the first index and the last one in two bytes each
abbrev pub static_heading : PointKind → Heading
static_heading kind variation index n = static_group kind ∷ variation ∷ 1 ∷ (le 2 index ++ le 2 (index + n - 1))

-- among binaries or among analogs, a point's kind of object is its variation
abbrev pub point_object : PointsView → PointKind → ℕ → Object
point_object i kind n =
    record { kind = static_variation (shown_at i kind n); index = n; bytes = point_bytes (shown_at i kind n) }

-- so many points from the n-th on
unfoldable pub point_objects : PointsView → PointKind → ℕ → ℕ → List Object
point_objects i kind n zero = []
point_objects i kind n (suc k) = point_object i kind n ∷ point_objects i kind (n + 1) k

unfoldable pub range_bytes : PointsView → PointKind → ℕ → ℕ → List ℕ
range_bytes i kind n k = encoded (static_heading kind) (point_objects i kind n k)

-- "binaries, then analogs", of a request header
abbrev pub header_bytes : PointsView → Header → List ℕ
header_bytes i h = range_bytes i K.Binary h.binary h.binaries ++ range_bytes i K.Analog h.analog h.analogs

-- "static parts in the order asked"
unfoldable pub static_bytes : PointsView → List Header → List ℕ
static_bytes i [] = []
static_bytes i (h ∷ hs) = header_bytes i h ++ static_bytes i hs

-- "then static part plus 4 above 2,048, 2.2"
abbrev pub sized : PointsView → Parsed → Parsed
sized i (headers hs) = first (ltb fragment_max (length (static_bytes i hs) + 4) ⇒ fault BadParameter ∷ []) (headers hs)
sized i (fault f) = fault f

-- what a READ asks for, or its fault, of the bytes after control and function
abbrev pub asked_of : PointsView → List ℕ → Parsed
asked_of i s = sized i (parse (length i.binaries) (length i.analogs) s)
