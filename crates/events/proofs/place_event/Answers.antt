-- `events::place_event` meets its contract.
-- Assumes nothing.
use mathlib.Core.Path.{sym, ◌∙◌}
use Rattle.events.proofs.CarryLaws.{placement-carry, placement-stop, placement-pass}
use Rattle.events.proofs.place_event.Goals as goal

pub returns-then-k-need : goal.returns-then-k-need
returns-then-k-need c =
    let a = c.args in
    placement-stop a.m a.k a.e _ _ (sym c.is_asked.ensures ∙ c.if-is_asked.true) c.kind-n.ensures c.cost-need.ensures.0 c.if-k-need.true

pub returns-else-k-need : goal.returns-else-k-need
returns-else-k-need c =
    let a = c.args in
    placement-carry a.m a.k a.e _ _ (sym c.is_asked.ensures ∙ c.if-is_asked.true) c.kind-n.ensures c.cost-need.ensures.0 c.if-k-need.false

pub returns-else-is_asked : goal.returns-else-is_asked
returns-else-is_asked c =
    let a = c.args in
    placement-pass a.m a.k a.e (sym c.is_asked.ensures ∙ c.if-is_asked.false)
