use mathlib.Core.Path.{◌≡◌, ap, ◌∙◌}
use native.Mathlib.Omega.{arith}
use Prim.Native.Nat.{ℕ, ◌+◌, ◌≤◌, min}
use lib.ListN.{length, length-append}
use Rattle.octets.proofs.Splice.{splice-nil}
use Rattle.frame.proofs.Laws.{blocks-piece, blocks-none}
use Rattle.frame.specs.Frame.{block_count}
use Rattle.frame.proofs.put_blocks.Goals as goal
use Rattle.frame.proofs.put_blocks.Goals.{In-Some}

-- the block is the first 16 bytes that are left, or all
width : (c : In-Some) → length c.in-Some.block.now ≡ min 16 (length c.loop-block.block-iterator.rest.now)
width c = c.in-Some.ensures.steps.1.1 ∙ ap (λ (n : ℕ). min n (length c.loop-block.block-iterator.rest.now)) c.loop-block.invariant.0

sum_of : (c : In-Some) → length c.loop-block.block-iterator.rest.now ≡ length c.in-Some.block.now + length c.next.new.self.rest.now
sum_of c = ap length c.in-Some.ensures.steps.1.0 ∙ length-append c.in-Some.block.now c.next.new.self.rest.now

pub put_with_crc-requires : goal.put_with_crc-requires
put_with_crc-requires c =
    let u = (goal.at.put_with_crc-requires c).In-Some in
    let inv = c.loop-block.invariant in
    omega (arith, width u, c.in-Some.ensures.steps.1.2, inv.1, inv.2)

pub loop-block-preserved : goal.loop-block-preserved
loop-block-preserved c =
    let u = (goal.at.loop-block-preserved c).In-Some in
    let k = c.in-Some.ensures.steps in
    let b = c.in-Some.block.now in
    let rest = c.next.new.self.rest.now in
    let l = c.loop-block in
    let inv = l.invariant in
    let w = width u in
    let s = sum_of u in (
      k.0 ∙ inv.0,
      omega (arith, c.put_with_crc.auto.out, inv.1),
      omega (arith, w, s, k.1.2, inv.2),
      cc (blocks-piece l.out l.to l.block-iterator.rest.now b rest k.1.0 w k.1.2, inv.3),
    )

pub returns : goal.returns
returns c =
    let l = c.loop-block in
    let k : block_count (length l.block-iterator.rest.now) ≤ 0 = omega (arith, c.in-None.ensures.steps.1.0) in
    cc (blocks-none (block_count (length l.block-iterator.rest.now)) l.block-iterator.rest.now k, splice-nil l.out l.to, l.invariant.3)
