-- Whole READs, worked by the definitions from the bytes after control and function to the objects of the response.
-- Assumes nothing.
use mathlib.Core.Path.{◌≡◌, refl}
use mathlib.Core.Bool.{true, false}
use mathlib.Core.List.{[], ◌∷◌}
use lib.Ieee.{binary32, of_bits, to_bits}
use Rattle.laws.specs.Lists.{filter}
use Rattle.octets.specs.Bytes.{le}
use Rattle.points.specs.PointsView.{PointsView, no_binary, no_analog}
use Rattle.points.specs.declared.Value.TheVariants.{Float32}
use Rattle.objects.specs.Runs.{runs, object_bytes, all_bytes, encoded}
use Rattle.events.specs.declared.Shown.TheVariants.{State}
use Rattle.events.specs.Placing.{cost_of, fits, space_after}
use Rattle.events.specs.BufferView.{BufferView, carry}
use Rattle.read_headers.specs.Parse.{headers_of, asks_for}
use Rattle.event_objects.specs.Events.{event_bytes, carried_events, carried_objects, carried_bytes}
use Rattle.static_objects.specs.Static.{point_bytes, point_objects, range_bytes, static_bytes, asked_of}
use Rattle.read.specs.Response.{response_objects}

-- row c of the acceptance table: 3C 02 06, no events
abbrev four : PointsView
four = record { binaries = no_binary ∷ no_binary ∷ no_binary ∷ no_binary ∷ []; analogs = [] }

row-c : response_objects four (asked_of four (60 ∷ 2 ∷ 6 ∷ [])) (record { held = []; overflow = false }) ≡ []
unfolding headers_of asks_for static_bytes range_bytes point_objects encoded runs all_bytes carry carried_bytes carried_objects carried_events filter
row-c = refl

-- row d: binary 3, class 1, on at 1,000, flags 01; 3C 02 06 gives 02 02 28 01 00 03 00 81 E8 03 00 00 00 00
abbrev one-held : BufferView
one-held =
    record {
      held = record { event = record { point = 3; shown = State true; flags = 1; time = 1000; class = 1 }; carried = false } ∷ [];
      overflow = false;
    }

row-d : response_objects four (asked_of four (60 ∷ 2 ∷ 6 ∷ [])) one-held ≡ 2 ∷ 2 ∷ 40 ∷ 1 ∷ 0 ∷ 3 ∷ 0 ∷ 129 ∷ 232 ∷ 3 ∷ 0 ∷ 0 ∷ 0 ∷ 0 ∷ []
unfolding headers_of asks_for static_bytes range_bytes point_objects encoded runs all_bytes object_bytes carry fits space_after cost_of carried_bytes carried_objects carried_events filter event_bytes le
row-d = refl

-- row j: one binary, on, one float point at 1.0, flags 01; 3C 01 06 gives 01 02 01 00 00 00 00 81, 1E 05 01 00 00 00 00 01 00 00 80 3F
abbrev one : PointsView
one =
    record {
      binaries = record { class = 0; seen = true; state = true; flags = 1; reported_flags = 1 } ∷ [];
      analogs = record { class = 0; seen = true; value = Float32 (of_bits binary32 1065353216); flags = 1; reported_flags = 1; gate_state = no_analog.gate_state } ∷ [];
    }

row-j : response_objects one (asked_of one (60 ∷ 1 ∷ 6 ∷ [])) (record { held = []; overflow = false })
    ≡ 1 ∷ 2 ∷ 1 ∷ 0 ∷ 0 ∷ 0 ∷ 0 ∷ 129 ∷ 30 ∷ 5 ∷ 1 ∷ 0 ∷ 0 ∷ 0 ∷ 0 ∷ 1 ∷ 0 ∷ 0 ∷ 128 ∷ 63 ∷ []
unfolding headers_of asks_for static_bytes range_bytes point_objects point_bytes encoded runs all_bytes object_bytes carry carried_bytes carried_objects carried_events filter le of_bits to_bits
row-j = refl
