-- Static parts, worked by the definitions.
-- Assumes nothing.
use mathlib.Core.Path.{◌≡◌, refl}
use mathlib.Core.Bool.{true}
use mathlib.Core.List.{[], ◌∷◌}
use Prim.Native.Nat.{ℕ}
use lib.IntN.{pos, negsuc}
use lib.Ieee.{binary32, of_bits, to_bits}
use Rattle.octets.specs.Bytes.{le}
use Rattle.points.specs.PointsView.{PointsView, no_analog}
use Rattle.points.specs.declared.Value.{Value}
use Rattle.points.specs.declared.Value.TheVariants.{Int32, Int16, Float32}
use Rattle.points.specs.declared.AnalogPoint.{AnalogPoint}
use Rattle.objects.specs.Runs.{runs, object_bytes, all_bytes, encoded}
use Rattle.read_headers.specs.Headers.{every_point}
use Rattle.static_objects.specs.Static.{point_bytes, point_objects, range_bytes, static_bytes}

abbrev analog : ℕ → Value → AnalogPoint
analog flags v = record { class = 0; seen = true; value = v; flags = flags; reported_flags = flags; gate_state = no_analog.gate_state }

-- row j of the acceptance table: 01 02 01 00 00 00 00 81, 1E 05 01 00 00 00 00 01 00 00 80 3F
abbrev one : PointsView
one =
    record {
      binaries = record { class = 0; seen = true; state = true; flags = 1; reported_flags = 1 } ∷ [];
      analogs = analog 1 (Float32 (of_bits binary32 1065353216)) ∷ [];
    }

row-j : static_bytes one (every_point 1 1 ∷ [])
    ≡ 1 ∷ 2 ∷ 1 ∷ 0 ∷ 0 ∷ 0 ∷ 0 ∷ 129 ∷ 30 ∷ 5 ∷ 1 ∷ 0 ∷ 0 ∷ 0 ∷ 0 ∷ 1 ∷ 0 ∷ 0 ∷ 128 ∷ 63 ∷ []
unfolding static_bytes range_bytes point_objects point_bytes encoded runs all_bytes object_bytes le of_bits to_bits
row-j = refl

-- analogs of 32, 16, 16 and 32 bits: three headers
abbrev four : PointsView
four = record { binaries = []; analogs = analog 1 (Int32 (pos 1)) ∷ analog 1 (Int16 (pos 2)) ∷ analog 1 (Int16 (negsuc 0)) ∷ analog 2 (Int32 (pos 3)) ∷ [] }

kinds : static_bytes four (every_point 0 4 ∷ [])
    ≡ 30 ∷ 1 ∷ 1 ∷ 0 ∷ 0 ∷ 0 ∷ 0 ∷ 1 ∷ 1 ∷ 0 ∷ 0 ∷ 0
    ∷ 30 ∷ 2 ∷ 1 ∷ 1 ∷ 0 ∷ 2 ∷ 0 ∷ 1 ∷ 2 ∷ 0 ∷ 1 ∷ 255 ∷ 255
    ∷ 30 ∷ 1 ∷ 1 ∷ 3 ∷ 0 ∷ 3 ∷ 0 ∷ 2 ∷ 3 ∷ 0 ∷ 0 ∷ 0 ∷ []
unfolding static_bytes range_bytes point_objects point_bytes encoded runs all_bytes object_bytes le
kinds = refl
