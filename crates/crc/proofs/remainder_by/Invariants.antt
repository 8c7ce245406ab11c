-- `crc::remainder_by` meets its contract. The invariants: the bytes that are left, from the remainder so far, give the remainder of all; while eights
-- are taken, the bytes that are left end in the others.
-- Assumes nothing.
use mathlib.Core.Path.{◌≡◌}
use Prim.Native.Nat.{◌-◌, ◌%◌}
use lib.ListN.{length, drop}
use Rattle.crc.specs.Check.{remainder}
use Rattle.crc.proofs.remainder_by.Given as goal

abbrev pub invariant-loop-eight : goal.invariant-loop-eight
invariant-loop-eight l =
    let rest = l.eight-iterator.rest.now in
    (l.eight-iterator.size ≡ 8) × (remainder l.r rest ≡ remainder 0 l.s) × (drop (length rest - length rest % 8) rest ≡ l.others)

abbrev pub invariant-loop-b : goal.invariant-loop-b
invariant-loop-b l = remainder l.r (drop l.b-index l.others) ≡ remainder 0 l.s
