-- `static_objects::analog_shown` meets its contract.
-- Assumes nothing.
use native.Mathlib.Omega.{arith}
use Rattle.static_objects.proofs.AloneLaws.{analog-in, analog-out}
use Rattle.static_objects.proofs.analog_shown.Goals as goal

pub returns-then-i-installed : goal.returns-then-i-installed
returns-then-i-installed c =
    let a = c.args in
    analog-in a.count a.ws.now a.i (omega (arith, c.if-i-installed.true, c.installed.ensures)) _ _ c.load_shown-a.ensures.0 c.load_shown-a.ensures.1

pub returns-else-i-installed : goal.returns-else-i-installed
returns-else-i-installed c =
    let a = c.args in
    analog-out a.count a.ws.now a.i (omega (arith, c.if-i-installed.false, c.installed.ensures))
