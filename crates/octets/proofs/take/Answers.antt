use mathlib.Core.Path.{◌≡◌, sym}
use Prim.Native.Nat.{ℕ, ◌+◌, ◌-◌, ◌^◌, ◌≤◌, ◌<◌}
use native.Mathlib.Omega.{arith}
use Rattle.octets.proofs.Le.{value_at-lt, value_at-more, value_at-none}
use Rattle.octets.proofs.take.Goals as goal
use Rattle.octets.proofs.take.Goals.{At-loop-i}

pub loop-i-init : goal.loop-i-init
loop-i-init c =
    let a = c.args in
    let z = a.at + a.n - (a.at + a.n) in
    (sym (value_at-none z (a.at + a.n) a.s.now (omega arith)), omega arith)

-- the number so far is below 256 ^ m, m any number from its count of bytes on
small : (c : At-loop-i) (m : ℕ) → c.args.at + c.args.n - c.loop-i.i ≤ m → c.loop-i.r < 256 ^ m
small c m h =
    let a = c.args in
    let e = c.loop-i.invariant.0 in
    rw e (value_at-lt m (a.at + a.n - c.loop-i.i) c.loop-i.i a.s.now (λ i. (c.type_inv.s i).fits) (omega arith) h)

pub overflow_mul-r : goal.overflow_mul-r
overflow_mul-r c = omega (arith, small (goal.at.overflow_mul-r c).At-loop-i 7 (omega arith))

pub overflow_add-r : goal.overflow_add-r
overflow_add-r c = omega (arith, small (goal.at.overflow_add-r c).At-loop-i 7 (omega arith), c.type_inv.s (c.loop-i.i - 1))

pub loop-i-preserved : goal.loop-i-preserved
loop-i-preserved c =
    let a = c.args in
    let k = c.loop-i.i - 1 in
    let p : k + 1 ≡ c.loop-i.i = omega arith in
    let n : a.at + a.n - k - 1 ≡ a.at + a.n - c.loop-i.i = omega arith in
    (cc (c.from.ensures, c.loop-i.invariant.0, n, p, value_at-more (a.at + a.n - k) k a.s.now (omega arith) (omega arith)), omega arith)

pub returns : goal.returns
returns c =
    let a = c.args in
    let q : c.loop-i.i ≡ a.at = omega arith in
    let n : a.at + a.n - c.loop-i.i ≡ a.n = omega arith in
    (cc (c.loop-i.invariant.0, n, q), small (goal.at.returns c).At-loop-i a.n (omega arith))
