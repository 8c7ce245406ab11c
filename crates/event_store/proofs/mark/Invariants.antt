-- `event_store::mark` meets its contract. Assumes nothing.
use Rattle.event_store.proofs.LentLaws.{Lent}
use Rattle.events.specs.BufferView.{carry}
use Rattle.events.specs.Placing.{empty_space}
use Rattle.event_store.proofs.mark.Given as goal

abbrev pub invariant-loop-i : goal.invariant-loop-i
invariant-loop-i l = Lent (carry l.m (empty_space l.room)) (carry l.m l.space) l.i-end l.initial.held l.held l.i l.i
