-- `control::with_zero` meets its contract. The invariant: the objects chosen, followed by those to be chosen of what is left, are the whole.
-- Assumes nothing.
use mathlib.Core.Path.{◌≡◌}
use mathlib.Core.List.{◌++◌}
use Prim.Native.Nat.{◌≤◌}
use lib.ListN.{length, take, drop}
use Rattle.control.specs.Status.{chosen}
use Rattle.control.proofs.with_zero.Given as goal

abbrev pub invariant-loop-i : goal.invariant-loop-i
invariant-loop-i l =
    (take l.j l.next.items ++ chosen (drop l.i (take l.n l.cs.items)) (drop l.i (take l.n l.ss)) ≡ chosen (take l.n l.cs.items) (take l.n l.ss)) × (length l.next.items ≡ 8)
    × (l.j ≤ l.i) × (l.i ≤ l.n)
