-- `static_objects::binaries_size` meets its contract.
-- Assumes nothing.
use mathlib.Core.Path.{sym, ap}
use native.Mathlib.Omega.{arith}
use lib.ListN.{length}
use borrow.Author.Rules.{rules}
use Rattle.static_objects.proofs.StaticLaws.{binaries-none, binaries-length}
use Rattle.static_objects.proofs.binaries_size.Goals as goal

pub returns-then-n-eq0 : goal.returns-then-n-eq0
returns-then-n-eq0 c = (λ i from. sym (ap length (binaries-none i from _ (omega (arith, c.if-n-eq0.true)))), search rules)

pub returns-else-n-eq0 : goal.returns-else-n-eq0
returns-else-n-eq0 c = (λ i from. sym (binaries-length i from _ (omega (arith, c.if-n-eq0.false))), search rules)
