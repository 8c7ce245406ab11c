-- `application::write_fault` meets its contract: std's `==` compares the six bytes.
-- Assumes nothing.
use mathlib.Core.Path.{◌≡◌}
use mathlib.Core.Bool.{true, false}
use borrow.Author.Tests.{le-ltb, eq-eqb}
use Rattle.laws.specs.Lists.{same}
use Rattle.laws.proofs.SameLaws.{same_as_eq}
use Rattle.application.specs.Response.{clear_restart}
use Rattle.application.proofs.write_fault.Goals as goal

pub returns-then-eq : goal.returns-then-eq
returns-then-eq c =
    let p = same_as_eq c.args.objects.now clear_restart in
    let e : same c.args.objects.now clear_restart ≡ true = cc in
    rw (le-ltb _ _ c.if-objects-lt3.false, eq-eqb _ _ c.if-objects-ne80.false, eq-eqb _ _ c.if-objects-ne1.false, e)

pub returns : goal.returns
returns c =
    let p = same_as_eq c.args.objects.now clear_restart in
    let e : same c.args.objects.now clear_restart ≡ false = cc in
    rw (le-ltb _ _ c.if-objects-lt3.false, eq-eqb _ _ c.if-objects-ne80.false, eq-eqb _ _ c.if-objects-ne1.false, e)
