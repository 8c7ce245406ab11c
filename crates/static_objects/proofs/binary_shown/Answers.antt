-- `static_objects::binary_shown` meets its contract.
-- Assumes nothing.
use mathlib.Core.Path.{ap, ◌∙◌}
use native.Mathlib.Omega.{arith}
use Rattle.static_objects.specs.declared.ShownPoint.TheVariants.{Binary}
use Rattle.static_objects.proofs.AloneLaws.{binary-in, binary-out}
use Rattle.static_objects.proofs.binary_shown.Goals as goal

pub returns-then-i-installed : goal.returns-then-i-installed
returns-then-i-installed c =
    let a = c.args in
    ap Binary c.state_byte.ensures
    ∙ binary-in a.count a.ws.now a.i (omega (arith, c.if-i-installed.true, c.installed.ensures)) _ c.load_binary-b.ensures

pub returns-else-i-installed : goal.returns-else-i-installed
returns-else-i-installed c =
    let a = c.args in
    binary-out a.count a.ws.now a.i (omega (arith, c.if-i-installed.false, c.installed.ensures))
