use Rattle.text.specs.Words.{shown_by}
use Rattle.text.proofs.DecimalLaws.{spell-turn, spell-end, wider, tenth}
use mathlib.Core.Path.{ap, ◌∙◌}
use mathlib.Core.List.{List, ◌++◌, append-nil}
use lib.ListN.{length, length-set, drop_of_length-le}
use Prim.Native.Nat.{ℕ, ◌≤◌, ◌<◌}
use native.Mathlib.Omega.{arith}
use Rattle.text.proofs.spell.Goals as goal

pub loop-rest-init : goal.loop-rest-init
loop-rest-init c = let l : length c.args.t.now ≤ 20 = omega arith in
    (ap (λ (l : List ℕ). shown_by 19 c.args.v ++ l) (drop_of_length-le c.args.t.now l) ∙ append-nil (shown_by 19 c.args.v), c.requires, omega arith, omega arith, omega arith)

pub loop-rest-preserved : goal.loop-rest-preserved
loop-rest-preserved c = let l = c.loop-rest in
    let w : 1 < l.i = wider l.i l.rest l.invariant.4 c.loop-rest-test.true in
    (spell-turn l.t l.i l.rest w (omega arith) c.loop-rest-test.true ∙ l.invariant.0, simp length-set l.invariant.1, omega arith, omega arith, tenth l.i l.rest (omega arith) l.invariant.4)

pub returns : goal.returns
returns c = let l = c.loop-rest in
    (spell-end l.t l.i l.rest (omega arith) (omega arith) (omega arith) ∙ l.invariant.0, omega arith, simp length-set l.invariant.1)
