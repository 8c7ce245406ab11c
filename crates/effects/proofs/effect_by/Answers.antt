-- `effects::effect_by` meets its contract. Assumes nothing.
use Rattle.std.proofs.Common.{arith}
use borrow.Author.Tests.{ne_eqb}
use Rattle.effects.specs.Effects.{context_view}
use Rattle.effects.proofs.effect_by.Goals as goal
use Rattle.effects.proofs.effect_by.Goals.{in-3, in-4, in-5, in-6}

pub returns-in-2 : goal.returns-in-2
returns-in-2 c = λ k. rw c.in-2.is (c.write_effect.ensures (context_view c.args.seen c.args.ws.now k) c.args.out.now)

pub returns-in_default : goal.returns-in_default
returns-in_default c =
    let n = c.args.function in
    λ k.
    rw (ne_eqb n 2 (λ e. omega arith), ne_eqb n 3 (λ e. omega arith), ne_eqb n 4 (λ e. omega arith), ne_eqb n 5 (λ e. omega arith), ne_eqb n 6 (λ e. omega arith))
    (c.plain_effect.ensures (context_view c.args.seen c.args.ws.now k) c.args.out.now)

pub returns : goal.returns
returns c =
    λ k.
    elim c.match-function.branch [
      | in-3 w ↦ rw w.in-3.is (rw w.f-is at c.control_request_effect.ensures k)
      | in-4 w ↦ rw w.in-4.is (rw w.f-is at c.control_request_effect.ensures k)
      | in-5 w ↦ rw w.in-5.is (rw w.f-is at c.control_request_effect.ensures k)
      | in-6 w ↦ rw w.in-6.is (rw w.f-is at c.control_request_effect.ensures k)
    ]
