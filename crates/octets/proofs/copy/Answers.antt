use mathlib.Core.Path.{refl, sym, ◌∙◌}
use Prim.Native.Nat.{◌+◌}
use lib.ListN.{length-set}
use Rattle.octets.proofs.Splice.{splice-start, splice-turn, splice-end}
use Rattle.octets.proofs.copy.Goals as goal

pub loop-i-init : goal.loop-i-init
loop-i-init c = (splice-start c.args.d.now c.args.at c.args.s.now, refl)

pub loop-i-preserved : goal.loop-i-preserved
loop-i-preserved c =
    let a = c.args in
    (splice-turn c.loop-i.d a.at c.loop-i.i a.s.now c.loop-i-test.true ∙ c.loop-i.invariant.0, simp length-set c.loop-i.invariant.1)

pub returns : goal.returns
returns c =
    let a = c.args in
    sym (splice-end c.loop-i.d (a.at + c.loop-i.i) c.loop-i.i a.s.now c.loop-i-test.false) ∙ c.loop-i.invariant.0
