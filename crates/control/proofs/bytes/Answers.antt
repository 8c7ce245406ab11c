-- `control::bytes` meets its contract: so many bytes for each object.
-- Assumes nothing.
use mathlib.Core.Path.{sym}
use Prim.Native.Nat.{◌+◌, ◌*◌, ◌≤◌, ◌<◌}
use native.Mathlib.Omega.{arith}
use Rattle.control.proofs.ObjectLaws.{span-times, span-most}
use Rattle.control.proofs.bytes.Goals as goal
use Rattle.control.proofs.bytes.Goals.{Start}

most : (c : Start) → (c.args.w + c.args.z + 1) * c.args.n ≤ 851955
most c =
    let t = span-times c.args.w c.args.z c.args.n in
    let m = span-most c.args.w c.args.z c.requires.0 c.requires.1 c.args.n in
    let n : c.args.n < 65536 = c.ranges.n.fits in
    omega (arith, t, m, n)

pub overflow_mul-result : goal.overflow_mul-result
overflow_mul-result c = record { fits = let m = most c in omega (arith, m) }

pub returns : goal.returns
returns c = (sym (span-times c.args.w c.args.z c.args.n), most c)
