-- `event_store::mark_carried` meets its contract. Assumes nothing.
use Rattle.events.specs.BufferView.{BufferView, edited, carry}
use Rattle.events.specs.Placing.{empty_space}
use mathlib.Core.Path.{ap, ◌∙◌}
use Rattle.event_store.proofs.mark_carried.Goals as goal

pub returns : goal.returns
returns c =
    let a = c.args in
    c.mark.ensures ∙ ap (λ (q : BufferView). edited (carry a.m (empty_space a.room)) q) c.clear.ensures
