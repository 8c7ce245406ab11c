-- `frame::put_blocks` meets its contract. The invariant: putting the bytes that are left in blocks from where the loop stands gives all.
-- Assumes nothing.
use mathlib.Core.Path.{◌≡◌}
use Prim.Native.Nat.{◌+◌, ◌*◌, ◌≤◌}
use lib.ListN.{length}
use Rattle.octets.specs.Bytes.{splice}
use Rattle.frame.specs.Frame.{blocks, block_count}
use Rattle.frame.proofs.put_blocks.Given as goal

abbrev pub invariant-loop-block : goal.invariant-loop-block
invariant-loop-block l =
    let rest = l.block-iterator.rest.now in
    (l.block-iterator.size ≡ 16) × (length l.out ≡ length l.initial.out) × (l.to + length rest + 2 * block_count (length rest) ≤ length l.initial.out)
    × (splice l.out l.to (blocks (block_count (length rest)) rest) ≡ splice l.initial.out l.at (blocks (block_count (length l.s)) l.s))
