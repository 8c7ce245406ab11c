-- `control::analog_can` meets its contract: the outputs that are installed are the first of those in the words.
-- Assumes nothing.
use mathlib.Core.Path.{◌≡◌, sym, ap, ◌∙◌}
use mathlib.Core.Bool.{and-true}
use Prim.Native.Nat.{◌<◌}
use native.Mathlib.Omega.{arith}
use borrow.Author.Tests.{lt-ltb, le-ltb}
use lib.ListN.{length, get_or, take, length-take}
use lib.Seq.{get_or-take}
use Rattle.analog_outputs.specs.Output.{takes}
use Rattle.analog_outputs.specs.OutputWords.{outputs_in, no_output}
use Rattle.analog_outputs.proofs.OutputLaws.{outputs-length}
use Rattle.control.proofs.analog_can.Goals as goal
use Rattle.control.proofs.analog_can.Goals.{After-min}

-- so many outputs are installed
few : (c : After-min) → length (take c.args.count (outputs_in c.args.ws.now)) ≡ c.min.result
few c =
    let l = outputs-length c.args.ws.now in
    let e = c.min.ensures in
    simp length-take (omega (arith, l, e))

pub returns-then-i-min : goal.returns-then-i-min
returns-then-i-min c =
    let a = c.args in
    let k = few (goal.at.returns-then-i-min c).After-min in
    let i : a.index < length (take a.count (outputs_in a.ws.now)) = omega (arith, c.if-i-min.true, k) in
    let at : get_or (take a.count (outputs_in a.ws.now)) a.index no_output ≡ get_or (outputs_in a.ws.now) a.index no_output =
    get_or-take a.count (outputs_in a.ws.now) a.index no_output (let l = c.min.ensures in omega (arith, l, c.if-i-min.true)) in
    rw (lt-ltb _ _ i, at)
    (c.takes.ensures ∙ ap (λ x. takes x a.v) c.load_output.ensures ∙ sym (and-true _))

pub returns-else-i-min : goal.returns-else-i-min
returns-else-i-min c =
    let k = few (goal.at.returns-else-i-min c).After-min in
    let a = c.args in
    let f = le-ltb a.index (length (take a.count (outputs_in a.ws.now))) (omega (arith, c.if-i-min.false, k)) in
    rw (f, le-ltb _ _ c.if-i-min.false)
