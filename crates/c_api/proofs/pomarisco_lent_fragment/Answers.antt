-- `c_api::pomarisco_lent_fragment` meets its contract.
-- Assumes nothing.
use Rattle.c_api.proofs.FragmentLaws.{host-given}
use Rattle.c_api.proofs.pomarisco_lent_fragment.Goals as goal

pub returns : goal.returns
returns c =
    let r = c.fragment-r in
    host-given _ r.result _ _ _ _ _ _ r.ensures c.operated_words.ensures c.into.ensures
