-- `frame::copy_user` meets its contract. The invariant: copying the user bytes of the blocks that are left from where the loop stands gives all. Each
-- block that is left has a check.
-- Assumes nothing.
use mathlib.Core.Path.{◌≡◌}
use Prim.Native.Nat.{◌+◌, ◌*◌, ◌≤◌, ◌<◌}
use lib.ListN.{length}
use Rattle.octets.specs.Bytes.{splice}
use Rattle.frame.specs.Frame.{users, user_of}
use Rattle.frame.proofs.Laws.{chunk_count}
use Rattle.frame.proofs.copy_user.Given as goal

abbrev pub invariant-loop-block : goal.invariant-loop-block
invariant-loop-block l =
    let rest = l.block-iterator.rest.now in
    let k = chunk_count (length rest) in
    (l.block-iterator.size ≡ 18) × (length l.out ≡ length l.initial.out)
    × (length rest ≤ 18 * k) × (18 * k < length rest + 16) × (l.to + length rest ≤ length l.initial.out + 2 * k)
    × (splice l.out l.to (users k rest) ≡ splice l.initial.out 0 (user_of l.n l.s))
