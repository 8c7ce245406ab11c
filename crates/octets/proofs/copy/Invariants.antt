-- `octets::copy` meets its contract. The invariant: copying what is left from where the loop stands gives the whole copy.
-- Assumes nothing.
use mathlib.Core.Path.{◌≡◌}
use Prim.Native.Nat.{◌+◌}
use lib.ListN.{length, drop}
use Rattle.octets.specs.Bytes.{splice}
use Rattle.octets.proofs.copy.Given as goal

abbrev pub invariant-loop-i : goal.invariant-loop-i
invariant-loop-i l = (splice l.d (l.at + l.i) (drop l.i l.s) ≡ splice l.initial.d l.at l.s) × (length l.d ≡ length l.initial.d)
