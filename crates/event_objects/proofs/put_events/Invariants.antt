-- `event_objects::put_events` meets its contract. Assumes nothing.
use Rattle.event_store.proofs.LentLaws.{status_of}
use Rattle.event_store.specs.EventWords.{buffer_in}
use Rattle.event_objects.proofs.LoopLaws.{Putting}
use Rattle.events.specs.Placing.{last_number}
use Rattle.event_objects.proofs.put_events.Given as goal

abbrev pub invariant-loop-i : goal.invariant-loop-i
invariant-loop-i l = Putting l.initial.out l.at (buffer_in l.held (status_of l.n)) l.n l.out l.to (last_number l.last) l.i
