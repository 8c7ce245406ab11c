-- `point_store::analog_words` meets its contract. Assumes nothing.
use Rattle.point_store.proofs.PointLaws.{analog-packed, bit-holds, bit-below}
use native.Mathlib.Omega.{arith}
use Rattle.point_store.proofs.analog_words.Goals as goal

pub returns : goal.returns
returns c =
    let v = c.value_coded-c in
    let t = c.analog_state_words-t in
    let p = c.args.p in
    rw (c.from-class.ensures, c.from-flags.ensures, c.from-reported.ensures)
    (analog-packed p t.result.words v.result.bits _ _ _ _ (omega arith) (omega arith) (omega arith) (bit-below p.seen _ c.from-seen.ensures) (omega (arith, v.ensures.1))
    t.ensures.1 t.ensures.2 (bit-holds p.seen _ c.from-seen.ensures) v.ensures.0 t.ensures.0)
