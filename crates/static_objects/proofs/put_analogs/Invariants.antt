-- `static_objects::put_analogs` meets its contract. The invariant: putting the run's header, and the points to come from where the loop stands, gives all.
-- Assumes nothing.
use Rattle.std.proofs.Common.{◌-◌}
use Rattle.static_objects.specs.Static.{point_objects}
use Rattle.read_headers.specs.declared.PointKind.TheVariants as K
use Rattle.static_objects.specs.Alone.{analogs_alone}
use Rattle.static_objects.proofs.AnalogRuns.{Going}
use Rattle.static_objects.proofs.put_analogs.Given as goal

abbrev pub invariant-loop-i : goal.invariant-loop-i
invariant-loop-i l =
    Going l.initial.out l.at (point_objects (analogs_alone l.count l.ws) K.Analog l.from (l.i-end - l.from)) l.out l.to l.run l.i
    (point_objects (analogs_alone l.count l.ws) K.Analog l.i (l.i-end - l.i))
