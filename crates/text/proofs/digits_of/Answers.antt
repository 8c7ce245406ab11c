use mathlib.Core.Path.{refl, sym, ◌∙◌}
use Rattle.text.proofs.DecimalLaws.{whole-within-low, whole-within-high, whole-within-turn, whole-within-past, whole-within-end}
use native.Mathlib.Omega.{arith}
use Rattle.text.proofs.digits_of.Goals as goal
use Rattle.text.proofs.digits_of.Goals.{then-b-lt48-via-then-b-lt48, then-b-lt48-via-else-b-lt48+then-b-gt57}

pub returns-then-b-lt48-clause-said : goal.returns-then-b-lt48-clause-said
returns-then-b-lt48-clause-said c = let l = c.loop-b in
    sym (elim c.then-b-lt48.branch [
      | then-b-lt48-via-then-b-lt48 w ↦ whole-within-low c.args.limit l.a l.b-index c.args.w.now (omega arith) w.if-b-lt48.true
      | then-b-lt48-via-else-b-lt48+then-b-gt57 w ↦ whole-within-high c.args.limit l.a l.b-index c.args.w.now (omega arith) w.if-b-gt57.true
    ])
    ∙ l.invariant.0

pub returns-then-limit-d-clause-said : goal.returns-then-limit-d-clause-said
returns-then-limit-d-clause-said c = let l = c.loop-b in sym (whole-within-past c.args.limit l.a l.b-index c.args.w.now (omega arith) (omega arith) (omega arith) (omega arith)) ∙ l.invariant.0

pub returns-then-limit-d-2-clause-said : goal.returns-then-limit-d-2-clause-said
returns-then-limit-d-2-clause-said c = let l = c.loop-b in sym (whole-within-past c.args.limit l.a l.b-index c.args.w.now (omega arith) (omega arith) (omega arith) (omega arith)) ∙ l.invariant.0

pub loop-b-preserved : goal.loop-b-preserved
loop-b-preserved c = let l = c.loop-b in
    (whole-within-turn c.args.limit l.a l.b-index c.args.w.now (omega arith) _ (omega arith) (omega arith) (omega arith) ∙ l.invariant.0, omega arith, omega arith)

pub returns-clause-said : goal.returns-clause-said
returns-clause-said c = let l = c.loop-b in sym (whole-within-end c.args.limit l.a l.b-index c.args.w.now (omega arith) (omega arith)) ∙ l.invariant.0
