-- `event_store::release` meets its contract. Assumes nothing.
use Rattle.event_store.proofs.LentLaws.{Lent}
use Rattle.events.specs.BufferView.{not_carried}
use Rattle.laws.specs.Lists.{filter}
use Rattle.event_store.proofs.release.Given as goal

abbrev pub invariant-loop-i : goal.invariant-loop-i
invariant-loop-i l = Lent (filter not_carried) (filter not_carried) l.i-end l.initial.held l.held l.i l.j
