-- `restart::fresh_outputs` meets its contract. Assumes nothing.
use mathlib.Core.Path.{sym, ap, ◌∙◌}
use mathlib.Core.Bool.{false≢true}
use native.Mathlib.Numerals.{add-one}
use native.Mathlib.Omega.{arith}
use Rattle.analog_outputs.proofs.OutputLaws.{outputs-length}
use Rattle.restart.proofs.StoringLaws.{storing-start, storing-more, storing-fails, storing-end}
use Rattle.analog_outputs.specs.Output.{output_ok}
use Rattle.restart.proofs.fresh_outputs.Goals as goal

pub loop-i-init : goal.loop-i-init
loop-i-init c = storing-start _ _ _ _

pub loop-i-preserved : goal.loop-i-preserved
loop-i-preserved c =
    let at = c.loop-i in
    rw (add-one, c.store_output.ensures)
    (storing-more _ _ _ _ _ _ at.invariant c.loop-i-test.true _ ((rw c.from.ensures at (sym (ap output_ok c.output_of-o.ensures))) ∙ sym c.output_ok.ensures ∙ c.if-not-output_ok.false)
    (rw (outputs-length at.outputs) (omega arith)))

pub returns-then-not-output_ok : goal.returns-then-not-output_ok
returns-then-not-output_ok c = (
  sym (storing-fails _ _ _ _ _ _ c.loop-i.invariant c.loop-i-test.true _ ((rw c.from.ensures at (sym (ap output_ok c.output_of-o.ensures))) ∙ sym c.output_ok.ensures ∙ c.if-not-output_ok.true)),
  (λ e. absurd (false≢true e)),
)

pub returns : goal.returns
returns c = let e = storing-end _ _ _ _ _ _ c.loop-i.invariant (omega arith) in (sym e.0, (λ _. e.1))
