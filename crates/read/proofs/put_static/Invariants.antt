-- `read::put_static` meets its contract. The invariant: putting the headers to come from where the loop stands gives all.
-- Assumes nothing.
use lib.ListN.{length}
use Rattle.point_store.specs.PointWords.{points_view_in}
use Rattle.read_headers.specs.Parse.{headers_in}
use Rattle.static_objects.specs.Static.{asked_of}
use Rattle.read.proofs.AskLaws.{Putting}
use Rattle.read.proofs.put_static.Given as goal

abbrev pub invariant-loop-front : goal.invariant-loop-front
invariant-loop-front l = Putting (points_view_in l.points.installed l.points.binaries.now l.points.analogs.now) l.binary_count l.analog_count l.s (headers_in (asked_of (points_view_in l.points.installed l.points.binaries.now l.points.analogs.now) l.s)) l.initial.out l.at l.out l.to l.rest

abbrev pub decreases-loop-front : goal.decreases-loop-front
decreases-loop-front l = length l.rest
