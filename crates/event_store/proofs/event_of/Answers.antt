-- `event_store::event_of` meets its contract. Assumes nothing.
use Rattle.event_store.specs.EventWords.{event_of}
use Rattle.event_store.proofs.event_of.Goals as goal

pub returns : goal.returns
unfolding event_of
returns c = rw c.shown_of.ensures
