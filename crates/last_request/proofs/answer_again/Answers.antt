-- `last_request::answer_again` meets its contract. Assumes nothing.
use Rattle.std.proofs.Common.{sym, refl, arith}
use Rattle.octets.proofs.Splice.{splice-nil}
use Rattle.last_request.specs.Repeat.{last_in}
use Rattle.last_request.proofs.answer_again.Goals as goal

pub returns-in_default : goal.returns-in_default
unfolding last_in
returns-in_default c = rw c.in_default.is (sym (splice-nil c.args.out.now 0), refl, omega arith)
