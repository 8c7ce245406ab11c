use mathlib.Core.Path.{refl}
use native.Mathlib.Omega.{arith}
use Rattle.event_store.proofs.LentLaws.{lent-start, lent-rewritten, clears}
use Rattle.event_store.proofs.clear.Goals as goal

pub loop-i-init : goal.loop-i-init
loop-i-init c = lent-start _ _ _ c.told-held

pub loop-i-preserved : goal.loop-i-preserved
loop-i-preserved c = clears _ _ _ _ (omega (arith, c.filled-i-end.ensures)) c.loop-i-test.true c.loop-i.invariant

pub returns : goal.returns
returns c = lent-rewritten _ _ _ _ _ _ c.args.status c.filled-i-end.ensures c.loop-i-test.false refl c.loop-i.invariant
