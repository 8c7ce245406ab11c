-- `control::taken` meets its contract. The invariant: the objects taken, followed by those at the front of what is left, are the whole.
-- Assumes nothing.
use mathlib.Core.Path.{◌≡◌}
use mathlib.Core.List.{◌++◌}
use Prim.Native.Nat.{◌≤◌, ◌+◌, ◌-◌}
use lib.ListN.{length, take, drop}
use Rattle.control.specs.Objects.{value_size, span, objects}
use Rattle.control.proofs.taken.Given as goal

abbrev pub invariant-loop-i : goal.invariant-loop-i
invariant-loop-i l =
    (take l.i l.next.items ++ objects l.x.kind l.x.width (l.x.count - l.i) (drop l.at l.b) ≡ objects l.x.kind l.x.width l.x.count l.b) × (length l.next.items ≡ 8) × (l.i ≤ l.x.count) × (l.at + span l.x.width (value_size l.x.kind) (l.x.count - l.i) ≤ length l.b)
