-- `points::read_binary` meets its contract. Assumes nothing.
use mathlib.Core.Path.{◌≡◌, refl}
use mathlib.Core.Bool.{Bool, true, false, not, beq}
use Rattle.std.proofs.lemmas.Result.{err_from_is_err_and}
use Rattle.points.specs.Reading.{read_binary, changed}
use Rattle.points.proofs.read_binary.Goals as goal

differ : (a b : Bool) → not (beq a b) ≡ changed a b
differ true true = refl
differ true false = refl
differ false true = refl
differ false false = refl

pub returns-in_err-check_flags : goal.returns-in_err-check_flags
unfolding read_binary
returns-in_err-check_flags c =
    let p = err_from_is_err_and c.from_residual.result c.from_residual.ensures.1 in
    let e = c.in_err-check_flags.ensures.err in
    rw (p.1, p.2, e.0, e.1)

pub returns : goal.returns
unfolding read_binary
returns c =
    let a = c.args in
    rw (c.in_ok-check_flags.ensures.ok, c.last_flags.ensures, c.is_raised.ensures, c.is_reported-report.ensures, differ a.state a.p.state)
