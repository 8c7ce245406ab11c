-- `select_latch::answer` meets its contract.
-- Assumes nothing.
use mathlib.Core.Path.{refl, sym, ◌∙◌}
use Rattle.octets.proofs.Splice.{splice-nil}
use Rattle.select_latch.proofs.Laws.{unanswered-is}
use Rattle.select_latch.proofs.answer.Goals as goal

pub returns-then-eq : goal.returns-then-eq
returns-then-eq c =
    let a = c.args in
    rw (sym (unanswered-is a.f) ∙ sym c.if-eq.ensures) (sym (splice-nil a.out.now 4), refl)
