-- `events::cost` meets its contract. Assumes nothing.
use Rattle.std.proofs.Common.{arith, sym, ap, ◌∙◌, ℕ, ◌+◌}
use Rattle.events.specs.Placing.{cost_of}
use Rattle.events.proofs.EventKindLaws.{last-is}
use Rattle.events.proofs.cost.Goals as goal

pub returns-then-eq : goal.returns-then-eq
unfolding cost_of
returns-then-eq c =
    let t = sym (last-is c.args.k.kind c.args.kind) ∙ sym c.eq.ensures ∙ c.if-eq.true in
    (rw t c.size-n.ensures.0, omega arith)

pub returns-else-eq : goal.returns-else-eq
unfolding cost_of
returns-else-eq c =
    let t = sym (last-is c.args.k.kind c.args.kind) ∙ sym c.eq.ensures ∙ c.if-eq.false in
    (rw t (ap (λ (n : ℕ). n + 5) c.size-n.ensures.0), omega arith)
