-- `static_objects::put_states` meets its contract. The invariant: putting the points to come from where the loop stands gives all.
-- Assumes nothing.
use Rattle.static_objects.proofs.StaticLaws.{Showing}
use Rattle.static_objects.specs.Alone.{binaries_alone}
use Rattle.static_objects.proofs.put_states.Given as goal

abbrev pub invariant-loop-i : goal.invariant-loop-i
invariant-loop-i l = Showing (binaries_alone l.count l.ws) l.initial.out l.at l.from l.i-end l.out l.to l.i
