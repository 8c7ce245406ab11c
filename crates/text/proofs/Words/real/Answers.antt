-- `text::Words::real` meets its contract: bytes that are not four are no float.
-- Assumes nothing.
use mathlib.Core.Path.{sym, ap, ◌∙◌}
use lib.ListN.{take, length-take}
use native.Mathlib.Omega.{arith}
use Rattle.text.specs.Words.{four_bytes}
use Rattle.text.proofs.HexLaws.{not-four}
use Rattle.text.proofs.Words.real.Goals as goal

pub returns-then-n-ne4 : goal.returns-then-n-ne4
returns-then-n-ne4 c =
    let n = c.in_ok-n.n in
    let d = c.unhex_into.new.out in
    let w = c.in_ok-word.field-0.now in
    let got = c.in_ok-n.ensures.ok_part in
    let fits = rw got at c.unhex_into.ensures.within in
    let said = rw got at c.unhex_into.ensures.said in
    let other = not-four (take n d) (λ e. let l = length-take n d in omega (arith, l, e, fits, c.if-n-ne4.true)) in
    (_, c.in_ok-word.ensures, sym other ∙ ap four_bytes said)
