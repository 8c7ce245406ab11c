-- `read::put_objects` meets its contract.
-- Assumes nothing.
use native.Mathlib.Omega.{arith}
use lib.ListN.{length-append}
use Rattle.event_objects.specs.Events.{carried_bytes}
use Rattle.event_store.specs.EventWords.{buffer_view_in}
use Rattle.point_store.specs.PointWords.{points_view_in}
use Rattle.read.specs.Response.{static_part}
use Rattle.read.proofs.ResponseLaws.{two-put}
use Rattle.read.proofs.put_objects.Goals as goal

pub returns : goal.returns
returns c =
    let static = c.put_static in
    let a = c.args in
    let s = static_part (points_view_in a.points.installed a.points.binaries.now a.points.analogs.now) a.s.now in (
      omega (arith, length-append (carried_bytes (buffer_view_in a.held.now a.status).held) s, static.ensures.0, c.put_events-to.ensures.0),
      two-put _ _ _ _ _ _ c.put_events-to.ensures.0 c.put_events-to.ensures.1 static.ensures.1,
    )
