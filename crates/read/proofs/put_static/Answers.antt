-- `read::put_static` meets its contract.
-- Assumes nothing.
use mathlib.Core.Path.{sym, ◌∙◌}
use native.Mathlib.Omega.{arith}
use Rattle.point_store.specs.PointWords.{points_view_in}
use Rattle.read.proofs.AskLaws.{putting, put-room, put-more, put_all, by-counts, read_as}
use Rattle.read.proofs.put_static.Goals as goal

pub loop-front-init : goal.loop-front-init
loop-front-init c =
    let a = c.args in
    let i = points_view_in a.points.installed a.points.binaries.now a.points.analogs.now in
    let e = by-counts a.points.installed a.points.binaries.now a.points.analogs.now a.s.now _ _ c.installed-binary_count.ensures c.installed-analog_count.ensures in
    putting i _ _ a.s.now _ a.out.now a.at (read_as i a.s.now _ _ e c.requires.0) c.requires.1

pub put_header-to-requires : goal.put_header-to-requires
put_header-to-requires c =
    put-room _ _ _ _ _ _ _ _ _ _ c.loop-front.invariant (omega (arith, c.in-Ok.ensures.within)) _ (sym c.front_header.ensures.header ∙ c.in-Ok.is)

pub loop-front-preserved : goal.loop-front-preserved
loop-front-preserved c =
    put-more _ _ _ _ _ _ _ _ _ _ c.loop-front.invariant (omega (arith, c.in-Ok.ensures.within)) _ (sym c.front_header.ensures.header ∙ c.in-Ok.is) _ _ c.put_header-to.ensures.0 c.put_header-to.ensures.1

pub returns : goal.returns
returns c = put_all _ _ _ _ _ _ _ _ _ _ c.loop-front.invariant _ (sym c.front_header.ensures.header ∙ c.in_default.is)
