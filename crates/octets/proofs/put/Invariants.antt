-- `octets::put` meets its contract. The invariant: storing what is left from where the loop stands gives what is to be stored in all.
-- Assumes nothing.
use mathlib.Core.Path.{◌≡◌}
use Prim.Native.Nat.{◌+◌, ◌-◌}
use Rattle.octets.specs.Bytes.{splice, le}
use Rattle.octets.proofs.put.Given as goal

abbrev pub invariant-loop-i : goal.invariant-loop-i
invariant-loop-i l = splice l.b l.i (le (l.at + l.n - l.i) l.rest) ≡ splice l.initial.b l.at (le l.n l.v)
