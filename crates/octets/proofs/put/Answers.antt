use mathlib.Core.Path.{◌≡◌}
use Prim.Native.Nat.{◌+◌, ◌-◌, ◌%◌, ◌/◌}
use native.Mathlib.Omega.{arith}
use Rattle.octets.specs.Bytes.{le}
use Rattle.octets.proofs.Splice.{splice-nil, splice-cons}
use Rattle.octets.proofs.Le.{le-more, le-none}
use Rattle.octets.proofs.put.Goals as goal

pub loop-i-init : goal.loop-i-init
loop-i-init c =
    let e : c.args.at + c.args.n - c.args.at ≡ c.args.n = omega arith in
    cc

pub loop-i-preserved : goal.loop-i-preserved
loop-i-preserved c =
    let l = c.loop-i in
    let k = c.args.at + c.args.n - l.i in
    let e : k - 1 ≡ c.args.at + c.args.n - (l.i + 1) = omega arith in
    cc (splice-cons l.b l.i (l.rest % 256) (le (k - 1) (l.rest / 256)), le-more k l.rest (omega arith))

pub returns : goal.returns
returns c =
    let l = c.loop-i in
    cc (le-none (c.args.at + c.args.n - l.i) l.rest (omega arith), splice-nil l.b l.i)
