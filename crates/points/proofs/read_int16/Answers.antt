-- `points::read_int16` meets its contract. Assumes nothing.
use mir.Facts.{to_z-of_z}
use mir.Syntax.{w16}
use mir.Val.{SFits}
use borrow.Author.Rules.{rules}
use Rattle.std.proofs.lemmas.Result.{err_from_is_err_and}
use Rattle.points.proofs.read_int16.Goals as goal

pub returns-in_err-check_flags : goal.returns-in_err-check_flags
returns-in_err-check_flags c =
    let p = err_from_is_err_and c.from_residual.result c.from_residual.ensures.1 in
    let e = c.in_err-check_flags.ensures.err in
    rw (p.1, p.2, e.0, e.1)

pub returns : goal.returns
returns c =
    let z = to_z-of_z c.ranges.z in
    let short : SFits w16 c.clamp_value-c.result.value = search rules in
    rw (
      c.in_ok-check_flags.ensures.ok,
      ← (rw z at c.gate_whole-gated.ensures),
      ← (rw z at c.clamp_value-c.ensures),
      ← c.shown_flags-f.ensures,
      ← c.is_reported-report.ensures,
      ← (rw z at c.gate_after-next.ensures),
      rw (to_z-of_z short) at c.analog_after.ensures,
    )
