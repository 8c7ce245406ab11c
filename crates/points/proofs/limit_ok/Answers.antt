-- `points::limit_ok` meets its contract. Assumes nothing.
use mathlib.Core.Path.{sym, ◌∙◌}
use lib.Ieee.{of_bits}
use Rattle.points.proofs.StdLaws.{finite-is}
use Rattle.points.proofs.limit_ok.Goals as goal

pub returns-then-is_finite : goal.returns-then-is_finite
unfolding of_bits
returns-then-is_finite c = rw (sym (finite-is c.args.limit) ∙ sym c.is_finite.ensures.value ∙ c.if-is_finite.true)

pub returns-else-is_finite : goal.returns-else-is_finite
returns-else-is_finite c = let e = sym (finite-is c.args.limit) ∙ sym c.is_finite.ensures.value ∙ c.if-is_finite.false in rw e c.if-is_finite.false
