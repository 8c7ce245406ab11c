-- `static_objects::analogs_size` meets its contract. The invariant: the sum, and the size of the points to come, are the whole size.
-- Assumes nothing.
use Rattle.std.proofs.Common.{◌≡◌, ◌+◌, ◌-◌, ◌*◌, ◌≤◌}
use Rattle.objects.specs.Runs.{size_after}
use Rattle.static_objects.specs.Static.{point_objects}
use Rattle.static_objects.specs.Alone.{analogs_alone}
use Rattle.read_headers.specs.declared.PointKind.TheVariants as K
use Rattle.static_objects.proofs.StaticLaws.{last_variation}
use Rattle.static_objects.proofs.analogs_size.Given as goal

abbrev pub invariant-loop-i : goal.invariant-loop-i
invariant-loop-i l =
    (l.total + size_after 7 (last_variation l.last) (point_objects (analogs_alone l.count l.ws) K.Analog l.i (l.i-end - l.i)) ≡ size_after 7 0 (point_objects (analogs_alone l.count l.ws) K.Analog l.from (l.i-end - l.from)))
    × (l.total + 12 * l.from ≤ 12 * l.i)
