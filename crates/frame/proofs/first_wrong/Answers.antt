use mathlib.Core.Path.{◌≡◌, sym, ap, ◌∙◌}
use native.Mathlib.Omega.{arith}
use borrow.Author.Rules.{rules}
use Prim.Native.Nat.{ℕ, ◌+◌, ◌-◌, ◌*◌}
use lib.ListN.{drop}
use Rattle.frame.specs.Frame.{first_wrong}
use Rattle.frame.proofs.Laws.{wrong-turn, wrong-stop, wrong-none}
use Rattle.frame.proofs.first_wrong.Goals as goal

pub returns-then-not-crc_ok : goal.returns-then-not-crc_ok
returns-then-not-crc_ok c =
    let a = c.args in
    let i = c.loop-i.i in
    let t = sym c.crc_ok.ensures ∙ c.if-not-crc_ok.true in
    let z = wrong-stop (18 * i) c.min-e.result (a.k - i) a.b.now (omega arith) (omega arith) c.min-e.ensures t in
    let e : i ≡ first_wrong a.k a.b.now = omega (arith, z, c.loop-i.invariant) in
    search rules

pub loop-i-preserved : goal.loop-i-preserved
loop-i-preserved c =
    let a = c.args in
    let i = c.loop-i.i in
    let t = sym c.crc_ok.ensures ∙ c.if-not-crc_ok.false in
    let z = wrong-turn (18 * i) c.min-e.result (a.k - i) a.b.now (omega arith) (omega arith) c.min-e.ensures t in
    let n : 18 * i + 18 ≡ 18 * (i + 1) = omega arith in
    let m : a.k - i - 1 ≡ a.k - (i + 1) = omega arith in
    let w = ap (λ (x : ℕ). first_wrong x (drop (18 * i + 18) a.b.now)) m ∙ ap (λ (x : ℕ). first_wrong (a.k - (i + 1)) (drop x a.b.now)) n in
    omega (arith, z, w, c.loop-i.invariant)

pub returns : goal.returns
returns c =
    let z = wrong-none (c.args.k - c.loop-i.i) (drop (18 * c.loop-i.i) c.args.b.now) (omega arith) in
    omega (arith, z, c.loop-i.invariant)
