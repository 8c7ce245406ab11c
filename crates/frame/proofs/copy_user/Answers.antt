use mathlib.Core.Path.{◌≡◌, ap, ◌∙◌}
use native.Mathlib.Omega.{arith}
use Prim.Native.Nat.{ℕ, ◌+◌, ◌-◌, ◌≤◌, min}
use lib.ListN.{length, take, length-append}
use lib.Seq.{length-take-le}
use Rattle.octets.proofs.Splice.{splice-nil}
use Rattle.frame.proofs.Laws.{chunk_count, users-piece, users-none}
use Rattle.frame.proofs.copy_user.Goals as goal
use Rattle.frame.proofs.copy_user.Goals.{In-Some}

-- the block is the first 18 bytes that are left, or all
width : (c : In-Some) → length c.in-Some.block.now ≡ min 18 (length c.loop-block.block-iterator.rest.now)
width c = c.in-Some.ensures.steps.1.1 ∙ ap (λ (n : ℕ). min n (length c.loop-block.block-iterator.rest.now)) c.loop-block.invariant.0

sum_of : (c : In-Some) → length c.loop-block.block-iterator.rest.now ≡ length c.in-Some.block.now + length c.next.new.self.rest.now
sum_of c = ap length c.in-Some.ensures.steps.1.0 ∙ length-append c.in-Some.block.now c.next.new.self.rest.now

pub copy-requires : goal.copy-requires
copy-requires c =
    let u = (goal.at.copy-requires c).In-Some in
    let b = c.in-Some.block.now in
    let inv = c.loop-block.invariant in
    let t : length (take (length b - 2) b) ≡ length b - 2 = length-take-le (length b - 2) b (omega arith) in
    omega (arith, t, width u, inv.1, inv.2, inv.3, inv.4, c.in-Some.ensures.steps.1.2)

pub loop-block-preserved : goal.loop-block-preserved
loop-block-preserved c =
    let u = (goal.at.loop-block-preserved c).In-Some in
    let k = c.in-Some.ensures.steps in
    let b = c.in-Some.block.now in
    let rest = c.next.new.self.rest.now in
    let l = c.loop-block in
    let inv = l.invariant in
    let w = width u in
    let s = sum_of u in
    let t : length (take (length b - 2) b) ≡ length b - 2 = length-take-le (length b - 2) b (omega arith) in (
      k.0 ∙ inv.0,
      omega (arith, c.copy.auto.d, inv.1),
      omega (arith, w, s, inv.2, inv.3, k.1.2),
      omega (arith, w, s, inv.2, inv.3, k.1.2),
      omega (arith, w, s, t, inv.2, inv.3, inv.4, k.1.2),
      cc (users-piece l.out l.to l.block-iterator.rest.now b rest k.1.0 w k.1.2 inv.2 inv.3, t, inv.5),
    )

pub returns : goal.returns
returns c =
    let l = c.loop-block in
    let k : chunk_count (length l.block-iterator.rest.now) ≤ 0 = omega (arith, c.in-None.ensures.steps.1.0) in
    cc (users-none (chunk_count (length l.block-iterator.rest.now)) l.block-iterator.rest.now k, splice-nil l.out l.to, l.invariant.5)
