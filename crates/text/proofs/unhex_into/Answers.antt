use mathlib.Core.Path.{◌≡◌, sym, ap, ◌∙◌}
use Prim.Native.Nat.{◌+◌, ◌*◌, ◌/◌}
use lib.ListN.{length, length-set}
use native.Mathlib.Omega.{arith}
use Rattle.text.specs.Words.{bytes}
use Rattle.text.proofs.HexLaws.{first-none, second_none, both-digits, unhex-turn, hex-whole, hex-all, read-room, read-odd, read-not, read_all}
use Rattle.text.proofs.unhex_into.Goals as goal

pub returns-then-out-n-clause-said : goal.returns-then-out-n-clause-said
returns-then-out-n-clause-said c = sym (read-room _ _ c.if-out-n.true)

pub returns-then-w-ne0-clause-said : goal.returns-then-w-ne0-clause-said
returns-then-w-ne0-clause-said c = sym (read-odd _ _ c.if-out-n.false c.if-w-ne0.true)

-- a digit that is none
pub returns-in_err-high-clause-said : goal.returns-in_err-high-clause-said
returns-in_err-high-clause-said c = let l = c.loop-k in let w = c.args.w.now in
    rw c.from_residual.ensures (sym (read-not _ w (omega arith) c.if-w-ne0.false
    (sym l.invariant.digits ∙ first-none (2 * l.k) w (omega arith) (omega (arith, c.in_err-high.ensures)))))

pub returns-in_err-low-clause-said : goal.returns-in_err-low-clause-said
returns-in_err-low-clause-said c = let l = c.loop-k in let w = c.args.w.now in
    rw c.from_residual-in_err-low.ensures (sym (read-not _ w (omega arith) c.if-w-ne0.false
    (sym l.invariant.digits ∙ second_none (2 * l.k) w (omega arith) (omega (arith, c.in_ok-high.ensures.0, c.in_ok-high.ensures.1)) (omega (arith, c.in_err-low.ensures)))))

pub loop-k-preserved : goal.loop-k-preserved
loop-k-preserved c = let l = c.loop-k in let w = c.args.w.now in
    let n = c.in_ok-high.ensures in let m = c.in_ok-low.ensures in
    let next : 2 * (l.k + 1) ≡ 2 * l.k + 2 = omega arith in
    record {
      bytes = rw next (unhex-turn (2 * l.k) w (omega arith) l.out l.k (16 * c.in_ok-high.high + c.in_ok-low.low) (omega arith) (omega (arith, n.0, m.0)) ∙ l.invariant.bytes);
      digits = rw next (both-digits (2 * l.k) w (omega arith) (omega (arith, n.0, n.1)) (omega (arith, m.0, m.1)) ∙ l.invariant.digits);
      room = simp length-set l.invariant.room;
    }

pub returns-clause-said : goal.returns-clause-said
returns-clause-said c = let l = c.loop-k in let w = c.args.w.now in
    let n : length w / 2 ≡ l.k = omega arith in
    rw n (ap bytes (sym (hex-whole l.out l.k (2 * l.k) w (omega arith)) ∙ l.invariant.bytes)
    ∙ sym (read_all _ w (omega arith) c.if-w-ne0.false (sym l.invariant.digits ∙ hex-all (2 * l.k) w (omega arith))))
