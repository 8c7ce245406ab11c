-- `fragments::take_confirm` meets its contract. Assumes nothing.
use Rattle.std.proofs.Common.{Some, None}
use Rattle.fragments.specs.declared.FragmentRefusal.TheVariants as R
use Rattle.fragments.specs.FragmentMeets.{with_held}
use Rattle.fragments.proofs.PartLaws.{refused-in, confirm-in}
use Rattle.fragments.proofs.take_confirm.Goals as goal

pub returns-in-None : goal.returns-in-None
returns-in-None c =
    let a = c.args in
    confirm-in a.h a.held.now a.q.0 a.uns a.time _ c.confirm.result None c.wait_of.ensures c.confirm.ensures c.in-None.is c.refuse.result a.held.now
    (λ m out. refused-in c.refuse.result a.h R.NotConfirmed c.refuse.ensures.0 c.refuse.ensures.1 c.refuse.ensures.2 (with_held a.held.now m) out)

pub returns-in-Some : goal.returns-in-Some
returns-in-Some c =
    let a = c.args in
    confirm-in a.h a.held.now a.q.0 a.uns a.time _ c.confirm.result (Some c.in-Some.a) c.wait_of.ensures c.confirm.ensures c.in-Some.is c.accept_confirm.result _ c.accept_confirm.ensures
