-- `event_store::event_words` meets its contract. Assumes nothing.
use Rattle.event_store.proofs.EventLaws.{space_after, packed-small}
use native.Mathlib.Omega.{arith}
use Prim.Native.Nat.{◌<◌}
use Rattle.event_store.proofs.event_words.Goals as goal

pub returns : goal.returns
returns c =
    let k = c.shown_coded-c in
    let e = c.args.e in
    let f : e.flags < 256 = omega arith in
    let cl : e.class < 256 = omega arith in
    let b : k.result.bits < 4294967296 = omega arith in
    rw (c.from-kind.ensures, c.from-bits.ensures, c.from-flags.ensures, c.from-class.ensures, c.from-point.ensures) (
      space_after e k.result.kind k.result.bits c.requires b f cl k.ensures.1 k.ensures.0,
      packed-small e k.result.kind k.result.bits c.requires b f cl k.ensures.1,
    )
