-- `points::clamp_value` meets its contract. Assumes nothing.
use mir.Facts.{to_z-of_z, sfits_widen}
use mir.Syntax.{w16, w32}
use mir.Val.{SFits}
use Rattle.points.proofs.WholeLaws.{clamped, clamped-is, clamped-fits, eq-bits}
use Rattle.points.proofs.clamp_value.Goals as goal

pub returns : goal.returns
returns c =
    let v = c.args.v in
    let short : SFits w16 (clamped v) = clamped-fits v in
    let wide : SFits w32 (clamped v) = sfits_widen {w = w16} {w' = w32} {z = clamped v} tt short in
    rw (rw (to_z-of_z c.ranges.v) at c.clamp-value.ensures.value, to_z-of_z wide, to_z-of_z short, eq-bits wide c.ranges.v) (clamped-is v)
