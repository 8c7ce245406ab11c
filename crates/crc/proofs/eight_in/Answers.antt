use mathlib.Core.Path.{◌≡◌, refl}
use Prim.Native.Nat.{◌+◌, ◌-◌, ◌*◌, ◌<◌, ◌≤◌}
use native.Mathlib.Omega.{arith}
use lib.Bits.{xor_zero_r}
use lib.ListN.{length, get_or, drop, drop_of_length-le}
use Rattle.crc.specs.Check.{shifts, remainder}
use Rattle.crc.proofs.Laws.{xor_assoc, remainder-nil, remainder-at, remainder-two}
use Rattle.crc.proofs.eight_in.Goals as goal

pub loop-place-init : goal.loop-place-init
loop-place-init c = refl

pub loop-place-preserved : goal.loop-place-preserved
loop-place-preserved c =
    let s = c.args.s.now in
    let k = c.loop-place.place in
    let h : k < length s = omega arith in
    let w : 8 * (length s - k) ≡ 64 - 8 * k = omega arith in
    cc (w, remainder-at k s h, xor_assoc c.loop-place.q (shifts (64 - 8 * k) (get_or s k 0)) (remainder 0 (drop (k + 1) s)))

pub returns : goal.returns
returns c =
    let a = c.args in
    let s = a.s.now in
    let q = c.loop-place.q in
    let none : length s ≤ c.loop-place.place = omega arith in
    let many : 2 ≤ length s = omega arith in
    let small : get_or s 0 0 < 256 = (c.type_inv.s 0).fits in
    let w₀ : 8 * length s ≡ 64 = omega arith in
    let w₁ : 8 * (length s - 1) ≡ 56 = omega arith in
    cc (drop_of_length-le s none, remainder-nil 0, xor_zero_r q, w₀, w₁, remainder-two a.r s many small)
