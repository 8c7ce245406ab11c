-- `octets::take` meets its contract. The invariant: r is the number of the bytes passed, from the high end.
-- Assumes nothing.
use mathlib.Core.Path.{◌≡◌}
use Prim.Native.Nat.{◌+◌, ◌-◌, ◌≤◌}
use Rattle.octets.specs.Bytes.{value_at}
use Rattle.octets.proofs.take.Given as goal

abbrev pub invariant-loop-i : goal.invariant-loop-i
invariant-loop-i l = (l.r ≡ value_at (l.at + l.n - l.i) l.i l.s) × (l.at ≤ l.i)
