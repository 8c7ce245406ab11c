-- `fragments::put_again` meets its contract.
-- Assumes nothing.
use mathlib.Core.Path.{refl, ap, ◌∙◌}
use native.Mathlib.Omega.{arith}
use borrow.Author.Tests.{eq-eqb, ne_eqb}
use lib.ListN.{length}
use Rattle.std.proofs.Common.{Option}
use Rattle.octets.specs.Bytes.{splice}
use Rattle.last_request.specs.Repeat.{kept_answer, last_in}
use Rattle.last_request.specs.declared.LastLengths.{LastLengths}
use Rattle.fragments.proofs.put_again.Goals as goal

pub returns-then-function-eq6 : goal.returns-then-function-eq6
returns-then-function-eq6 c = rw (eq-eqb _ _ c.if-function-eq6.true) (refl, refl, omega arith)

pub returns : goal.returns
returns c =
    let an = c.answer_again.ensures in
    let e = c.last_of.ensures in
    let a = c.args in
    rw (ne_eqb _ _ c.if-function-eq6.false) (
      an.0 ∙ ap (λ (k : Option LastLengths). splice a.out.now 0 (kept_answer (last_in a.request.now a.answer.now k))) e,
      an.1 ∙ ap (λ (k : Option LastLengths). length (kept_answer (last_in a.request.now a.answer.now k))) e,
      an.2,
    )
