-- `restart::fresh_binaries` meets its contract. Assumes nothing.
use mathlib.Core.Path.{sym, ◌∙◌}
use mathlib.Core.Bool.{false≢true}
use native.Mathlib.Numerals.{add-one}
use native.Mathlib.Omega.{arith}
use Rattle.point_store.proofs.PointLaws.{binaries-length}
use Rattle.restart.proofs.StoringLaws.{storing-start, storing-more, storing-fails, storing-end}
use Rattle.restart.proofs.fresh_binaries.Goals as goal

pub loop-i-init : goal.loop-i-init
loop-i-init c = storing-start _ _ _ _

pub loop-i-preserved : goal.loop-i-preserved
loop-i-preserved c =
    let at = c.loop-i in
    rw (add-one, c.store_binary.ensures, c.fresh_binary.ensures)
    (storing-more _ _ _ _ _ _ at.invariant c.loop-i-test.true _ (sym c.class_ok.ensures ∙ c.if-not-class_ok.false)
    (rw (binaries-length at.binaries) (omega arith)))

pub returns-then-not-class_ok : goal.returns-then-not-class_ok
returns-then-not-class_ok c = (
  sym (storing-fails _ _ _ _ _ _ c.loop-i.invariant c.loop-i-test.true _ (sym c.class_ok.ensures ∙ c.if-not-class_ok.true)),
  (λ e. absurd (false≢true e)),
)

pub returns : goal.returns
returns c = let e = storing-end _ _ _ _ _ _ c.loop-i.invariant (omega arith) in (sym e.0, (λ _. e.1))
