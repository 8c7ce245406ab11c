-- Carried events' bytes, worked by the definitions.
-- Assumes nothing.
use mathlib.Core.Path.{◌≡◌, refl}
use mathlib.Core.Bool.{true, false}
use mathlib.Core.List.{[], ◌∷◌, ◌++◌}
use Prim.Native.Nat.{ℕ}
use lib.IntN.{negsuc}
use Rattle.laws.specs.Lists.{filter}
use Rattle.octets.specs.Bytes.{le}
use Rattle.points.specs.declared.Value.TheVariants.{Int16}
use Rattle.objects.specs.Runs.{runs, object_bytes, all_bytes, encoded}
use Rattle.events.specs.declared.Shown.TheVariants.{State, Analog}
use Rattle.events.specs.declared.Event.{Event}
use Rattle.event_objects.specs.Events.{event_bytes, carried_events, carried_objects, carried_bytes}

abbrev on : ℕ → Event
on i = record { point = i; shown = State true; flags = 1; time = 1000; class = 1 }

abbrev minus_one : Event
minus_one = record { point = 1; shown = Analog (Int16 (negsuc 0)); flags = 1; time = 2; class = 2 }

-- row d of the acceptance table: 02 02 28 01 00 03 00 81 E8 03 00 00 00 00
row-d : carried_bytes (record { event = on 3; carried = true } ∷ []) ≡ 2 ∷ 2 ∷ 40 ∷ 1 ∷ 0 ∷ 3 ∷ 0 ∷ 129 ∷ 232 ∷ 3 ∷ 0 ∷ 0 ∷ 0 ∷ 0 ∷ []
unfolding carried_bytes carried_objects carried_events filter encoded runs all_bytes object_bytes event_bytes le
row-d = refl

-- one that is not carried does not part neighbours
mixed : carried_bytes
    (record { event = on 3; carried = true } ∷ record { event = minus_one; carried = false } ∷ record { event = on 1; carried = true }
    ∷ record { event = minus_one; carried = true } ∷ [])
    ≡ 2 ∷ 2 ∷ 40 ∷ 2 ∷ 0 ∷ (event_bytes (on 3) ++ (event_bytes (on 1) ++ (32 ∷ 4 ∷ 40 ∷ 1 ∷ 0 ∷ 1 ∷ 0 ∷ 1 ∷ 255 ∷ 255 ∷ 2 ∷ 0 ∷ 0 ∷ 0 ∷ 0 ∷ 0 ∷ [])))
unfolding carried_bytes carried_objects carried_events filter encoded runs all_bytes object_bytes event_bytes le
mixed = refl
