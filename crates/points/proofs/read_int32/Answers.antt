-- `points::read_int32` meets its contract. Assumes nothing.
use mir.Facts.{to_z-of_z}
use Rattle.std.proofs.lemmas.Result.{err_from_is_err_and}
use Rattle.points.proofs.read_int32.Goals as goal

pub returns-in_err-check_flags : goal.returns-in_err-check_flags
returns-in_err-check_flags c =
    let p = err_from_is_err_and c.from_residual.result c.from_residual.ensures.1 in
    let e = c.in_err-check_flags.ensures.err in
    rw (p.1, p.2, e.0, e.1)

pub returns : goal.returns
returns c =
    let z = to_z-of_z c.ranges.z in
    rw (
      c.in_ok-check_flags.ensures.ok,
      ← (rw z at c.gate_whole-gated.ensures),
      ← c.is_reported-report.ensures,
      ← (rw z at c.gate_after-next.ensures),
      ← (rw z at c.analog_after.ensures),
    )
