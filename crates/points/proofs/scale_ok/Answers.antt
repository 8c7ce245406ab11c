-- `points::scale_ok` meets its contract. Assumes nothing.
use mathlib.Core.Path.{sym, ◌∙◌}
use Rattle.points.proofs.StdLaws.{finite-is}
use Rattle.points.proofs.scale_ok.Goals as goal

pub returns-then-is_finite : goal.returns-then-is_finite
returns-then-is_finite c = rw (sym (finite-is c.args.s.gain) ∙ sym c.is_finite.ensures.value ∙ c.if-is_finite.true) (c.is_finite-then-is_finite.ensures.value ∙ finite-is _)

pub returns-else-is_finite : goal.returns-else-is_finite
returns-else-is_finite c = let e = sym (finite-is c.args.s.gain) ∙ sym c.is_finite.ensures.value ∙ c.if-is_finite.false in rw e c.if-is_finite.false
