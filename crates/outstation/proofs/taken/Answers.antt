-- `outstation::taken` meets its contract. Assumes nothing.
use Rattle.outstation.proofs.HeadLaws.{not-raised, held-did, dropped-did}
use Rattle.outstation.specs.ReadingParts.{with_changes}
use Rattle.point_store.proofs.PointLaws.{bit-holds}
use Rattle.outstation.proofs.taken.Goals as goal

pub returns-then-m-lt-CAPACITY : goal.returns-then-m-lt-CAPACITY
returns-then-m-lt-CAPACITY c =
    λ h n.
    rw c.if-raised.true
    (held-did (with_changes h n c.args.m) c.args.held.now c.args.time c.args.e c.push-t.new.held c.push-t.result _ c.push-t.ensures
    (bit-holds _ _ c.from-overflow.ensures) c.if-m-lt-CAPACITY.true)

pub returns-then-raised : goal.returns-then-raised
returns-then-raised c =
    λ h n.
    rw c.if-raised.true
    (dropped-did (with_changes h n c.args.m) c.args.held.now c.args.time c.args.e c.push-t.new.held c.push-t.result _ c.push-t.ensures
    (bit-holds _ _ c.from-overflow.ensures) c.if-m-lt-CAPACITY.false)

pub returns : goal.returns
returns c = λ h n. rw c.if-raised.false (not-raised (with_changes h n c.args.m) c.args.held.now c.args.time c.args.e)
