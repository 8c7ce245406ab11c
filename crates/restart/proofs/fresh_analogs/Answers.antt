-- `restart::fresh_analogs` meets its contract. Assumes nothing.
use mathlib.Core.Path.{refl, sym, ap, ◌∙◌}
use mathlib.Core.Bool.{false≢true}
use native.Mathlib.Numerals.{add-one}
use native.Mathlib.Omega.{arith}
use Rattle.point_store.proofs.PointLaws.{analogs-length}
use Rattle.restart.proofs.StoringLaws.{storing-start, storing-more, storing-fails, storing-end, storing-whole}
use Rattle.points.specs.Setup.{analog_ok}
use Rattle.restart.proofs.fresh_analogs.Goals as goal

pub loop-i-init : goal.loop-i-init
loop-i-init c = (storing-start _ _ _ _, (λ _. refl))

pub loop-i-preserved : goal.loop-i-preserved
loop-i-preserved c =
    let at = c.loop-i in (
      rw (add-one, c.store_analog.ensures, c.fresh_analog.ensures, c.from-a.ensures)
          (storing-more _ _ _ _ _ _ at.invariant.0 c.loop-i-test.true _ (sym (ap analog_ok c.from-a.ensures) ∙ sym c.analog_ok.ensures ∙ c.if-not-analog_ok.false)
          (rw (analogs-length at.analogs) (omega arith))),
      (λ e. absurd (omega arith)),
    )

pub returns-then-not-analog_ok : goal.returns-then-not-analog_ok
returns-then-not-analog_ok c = (
  sym (storing-fails _ _ _ _ _ _ c.loop-i.invariant.0 c.loop-i-test.true _ (sym (ap analog_ok c.from-a.ensures) ∙ sym c.analog_ok.ensures ∙ c.if-not-analog_ok.true)),
  (λ e. absurd (false≢true e)),
  (λ e. let below = c.loop-i-test.true in absurd (omega arith)),
)

pub returns : goal.returns
returns c = (
  sym (storing-end _ _ _ _ _ _ c.loop-i.invariant.0 (omega arith)).0,
  (λ _. storing-whole _ _ _ _ _ _ c.loop-i.invariant.0 (omega arith)),
  (λ e. c.loop-i.invariant.1 (omega arith)),
)
