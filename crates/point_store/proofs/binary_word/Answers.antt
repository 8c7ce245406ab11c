-- `point_store::binary_word` meets its contract. Assumes nothing.
use Rattle.point_store.proofs.PointLaws.{binary-packed, bit-holds, bit-below}
use native.Mathlib.Omega.{arith}
use Rattle.point_store.proofs.binary_word.Goals as goal

pub returns : goal.returns
returns c =
    let p = c.args.p in
    rw (c.from-class.ensures, c.from-flags.ensures, c.from-reported.ensures)
    (binary-packed p _ _ (omega arith) (omega arith) (omega arith) (bit-below p.seen _ c.from-seen.ensures) (bit-below p.state _ c.from-state.ensures)
    (bit-holds p.seen _ c.from-seen.ensures) (bit-holds p.state _ c.from-state.ensures))
