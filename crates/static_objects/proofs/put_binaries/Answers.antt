-- `static_objects::put_binaries` meets its contract.
-- Assumes nothing.
use mathlib.Core.Path.{sym, ap, ◌∙◌}
use Prim.Native.Nat.{◌<◌}
use native.Mathlib.Omega.{arith}
use lib.ListN.{length}
use Rattle.octets.specs.Bytes.{splice}
use Rattle.octets.proofs.Splice.{splice-nil}
use Rattle.static_objects.proofs.StaticLaws.{binaries-none, binaries-length, binaries-put}
use Rattle.static_objects.specs.Alone.{binaries_alone}
use Rattle.static_objects.proofs.put_binaries.Goals as goal

pub returns-then-n-eq0 : goal.returns-then-n-eq0
returns-then-n-eq0 c =
    let a = c.args in
    let e = binaries-none (binaries_alone a.count a.ws.now) a.from a.n (omega (arith, c.if-n-eq0.true)) in
    (omega (arith, ap length e), sym (ap (splice a.out.now a.at) e ∙ splice-nil a.out.now a.at))

pub put_heading-to-requires : goal.put_heading-to-requires
put_heading-to-requires c =
    let a = c.args in
    let some : 0 < a.n = omega (arith, c.if-n-eq0.false) in
    (omega (arith, c.requires.0, binaries-length (binaries_alone a.count a.ws.now) a.from a.n some), omega (arith, c.requires.1))

pub put_states-requires : goal.put_states-requires
put_states-requires c =
    let a = c.args in
    let some : 0 < a.n = omega (arith, c.if-n-eq0.false) in
    (omega (arith, c.requires.0, binaries-length (binaries_alone a.count a.ws.now) a.from a.n some, c.put_heading-to.ensures.0, c.put_heading-to.auto.out), c.requires.1)

pub returns : goal.returns
returns c =
    let a = c.args in
    let some : 0 < a.n = omega (arith, c.if-n-eq0.false) in (
      omega (arith, binaries-length (binaries_alone a.count a.ws.now) a.from a.n some, c.put_heading-to.ensures.0),
      binaries-put (binaries_alone a.count a.ws.now) _ _ _ _ _ _ _ some c.put_heading-to.ensures.0 c.put_heading-to.ensures.1 c.put_states.ensures,
    )
