-- `event_store::any_carried` meets its contract. Assumes nothing.
use Rattle.event_store.specs.EventWords.{slots_in}
use Rattle.events.specs.BufferView.{is_carried}
use Rattle.laws.proofs.Search.{Searching}
use Rattle.event_store.proofs.any_carried.Given as goal

abbrev pub invariant-loop-i : goal.invariant-loop-i
invariant-loop-i l = Searching is_carried (slots_in l.held) l.i-end l.i
