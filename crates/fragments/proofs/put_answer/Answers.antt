-- `fragments::put_answer` meets its contract.
-- Assumes nothing.
use mathlib.Core.Path.{refl}
use borrow.Author.Tests.{eq-eqb, ne_eqb}
use Rattle.fragments.proofs.put_answer.Goals as goal

pub returns-then-function-eq6 : goal.returns-then-function-eq6
returns-then-function-eq6 c = rw (eq-eqb _ _ c.if-function-eq6.true) (refl, refl)

pub returns : goal.returns
returns c =
    rw (ne_eqb _ _ c.if-function-eq6.false) (c.put_response_header.ensures, refl)
