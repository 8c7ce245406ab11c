-- `event_store::clear` meets its contract. Assumes nothing.
use Rattle.event_store.proofs.LentLaws.{Lent}
use Rattle.events.specs.BufferView.{marked}
use mathlib.Core.List.{map}
use mathlib.Core.Bool.{false}
use Rattle.event_store.proofs.clear.Given as goal

abbrev pub invariant-loop-i : goal.invariant-loop-i
invariant-loop-i l = Lent (map (marked false)) (map (marked false)) l.i-end l.initial.held l.held l.i l.i
