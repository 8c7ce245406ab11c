-- `points::read_float32` meets its contract. Assumes nothing.
use mathlib.Core.Path.{sym, ◌∙◌}
use lib.Ieee.{of_bits}
use Rattle.std.proofs.lemmas.Result.{err_from_is_err_and}
use Rattle.points.proofs.StdLaws.{finite-is}
use Rattle.points.proofs.read_float32.Goals as goal

pub returns-then-not-is_finite : goal.returns-then-not-is_finite
returns-then-not-is_finite c = rw (sym (finite-is c.args.x) ∙ sym c.is_finite.ensures.value ∙ c.if-not-is_finite.true)

pub returns-in_err-check_flags : goal.returns-in_err-check_flags
returns-in_err-check_flags c =
    let p = err_from_is_err_and c.from_residual.result c.from_residual.ensures.1 in
    let e = c.in_err-check_flags.ensures.err in
    rw (sym (finite-is c.args.x) ∙ sym c.is_finite.ensures.value ∙ c.if-not-is_finite.false, p.1, p.2, e.0, e.1)

pub returns : goal.returns
unfolding of_bits
returns c =
    rw (
      sym (finite-is c.args.x) ∙ sym c.is_finite.ensures.value ∙ c.if-not-is_finite.false,
      c.in_ok-check_flags.ensures.ok,
      ← c.scale_value-v.ensures,
      ← c.gate_float-gated.ensures,
      ← c.shown_flags-f.ensures,
      ← c.is_reported-report.ensures,
      ← c.gate_after-next.ensures,
      ← c.analog_after.ensures,
    )
