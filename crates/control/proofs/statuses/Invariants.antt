-- `control::statuses` meets its contract. The invariant: the statuses worked, followed by those of what is left, are the whole.
-- Assumes nothing.
use mathlib.Core.Path.{◌≡◌}
use mathlib.Core.List.{[], ◌++◌}
use Prim.Native.Nat.{◌≤◌}
use lib.ListN.{length, take, drop}
use Rattle.control.specs.Objects.{earlier_of}
use Rattle.control.specs.Status.{outputs_of, statuses}
use Rattle.control.proofs.statuses.Given as goal

abbrev pub invariant-loop-i : goal.invariant-loop-i
invariant-loop-i l =
    (take l.i l.ss ++ statuses (outputs_of l.counts l.ws) (earlier_of l.cs.items l.i) (drop l.i (take l.n l.cs.items)) ≡ statuses (outputs_of l.counts l.ws) [] (take l.n l.cs.items)) × (length l.ss ≡ 8) × (l.i ≤ l.n)
