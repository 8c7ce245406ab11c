use mathlib.Core.Path.{◌≡◌, sym, ap, ◌∙◌}
use Prim.Native.Nat.{ℕ, suc, ◌-◌, ◌%◌, ◌<◌}
use native.Mathlib.Numerals.{add-one}
use native.Mathlib.Omega.{arith}
use mathlib.Core.List.{List}
use lib.ListN.{length, get_or, drop, drop_of_length-le}
use lib.Seq.{drop-cons}
use Rattle.crc.specs.Check.{remainder}
use Rattle.crc.proofs.Laws.{remainder-nil, remainder-cons, remainder-append, drop-eights}
use Rattle.crc.proofs.remainder_by.Goals as goal

-- what whole eights leave
others_of : List ℕ → List ℕ
others_of rest = drop (length rest - length rest % 8) rest

pub loop-eight-preserved : goal.loop-eight-preserved
unfolding others_of
loop-eight-preserved c =
    let k = c.in-Some.ensures.steps in
    let b = c.in-Some.eight.now in
    let rest = c.next.new.self.rest.now in
    let inv = c.loop-eight.invariant in
    (k.0 ∙ inv.0, cc (k.1.0, remainder-append c.loop-eight.r b rest), sym (drop-eights b rest (k.1.1 ∙ inv.0)) ∙ sym (ap others_of k.1.0) ∙ inv.2)

-- under eight bytes are the others themselves
few : (rest : List ℕ) → length rest < 8 → others_of rest ≡ rest
unfolding others_of
few rest h = let n : length rest - length rest % 8 ≡ 0 = omega arith in rw n

pub loop-b-init : goal.loop-b-init
unfolding others_of
loop-b-init c =
    let rest = c.loop-eight.eight-iterator.rest.now in
    let inv = c.loop-eight.invariant in
    ap (remainder c.loop-eight.r) (sym inv.2 ∙ few rest (omega (arith, c.in-None.ensures.steps.1.0, inv.0))) ∙ inv.1

pub loop-b-preserved : goal.loop-b-preserved
loop-b-preserved c =
    let s = c.remainder-others.result.now in
    let i = c.loop-b.b-index in
    let h : i < length s = omega arith in
    cc (drop-cons s i 0 h, add-one i, remainder-cons c.loop-b.r (get_or s i 0) (drop (suc i) s))

pub returns : goal.returns
returns c = cc (drop_of_length-le c.remainder-others.result.now c.loop-b-test.false, remainder-nil c.loop-b.r)
