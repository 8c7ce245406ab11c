-- `receiver::decide` meets its contract: a frame's user data is copied, a refusal moves on.
-- Assumes nothing.
use mathlib.Core.Path.{◌≡◌, refl, sym, ap, ◌∙◌, subst}
use Prim.Native.Nat.{ℕ}
use lib.ListN.{take, drop}
use Rattle.frame.specs.FrameOutcome.{FrameOutcome}
use Rattle.frame.specs.Frame.{Parts, read_of, fields_of, checked_of}
use Rattle.std.specs.Prelude.{Result}
use Rattle.frame.specs.declared.Frame.{Frame}
use Rattle.frame.specs.declared.FrameRefusal.{FrameRefusal}
use Rattle.frame.proofs.Laws.{fields-checked}
use Rattle.receiver.specs.Receiver.{decided, kept_in, lent_after}
use Rattle.receiver.proofs.KeptLaws.{left-accepted, left-refused}
use Rattle.receiver.proofs.decide.Goals as goal

pub returns-in-Ok : goal.returns-in-Ok
returns-in-Ok c =
    let s = take c.args.n c.args.memory.now in
    let q = c.requires.0 in
    let e = c.in-Ok.is in
    let o = sym q.said ∙ ap (λ (r : Result Frame FrameRefusal). checked_of r s) e in
    let left = left-accepted s c.args.memory.now _ o (q.there ∙ c.requires.1) in
    record {
      answer = ap decided (ap read_of (sym e) ∙ fields-checked c.args.r s q.whole ∙ ap fields_of q.said);
      taken = refl;
      count = left.count;
      kept = left.kept;
      lent = c.copy_user.ensures ∙ ap (λ (x : FrameOutcome Parts). lent_after c.args.out.now (decided x)) (sym o);
    }

pub returns-in-Err : goal.returns-in-Err
returns-in-Err c =
    let m = c.args.memory.now in
    let s = take c.args.n m in
    let q = c.requires.0 in
    let e = c.in-Err.is in
    let o = sym q.said ∙ ap (λ (r : Result Frame FrameRefusal). checked_of r s) e in
    let k = c.move_on.ensures in
    let left = left-refused _ c.args.n m _ o q.there c.requires.1 (subst (λ (n : ℕ). take n c.move_on.new.memory ≡ take n (drop 1 m)) k.0 k.1) in
    record {
      answer = ap decided (ap read_of (sym e) ∙ fields-checked c.args.r s q.whole ∙ ap fields_of q.said);
      taken = refl;
      count = k.0 ∙ left.count;
      kept = ap (λ (n : ℕ). kept_in n c.move_on.new.memory) k.0 ∙ left.kept;
      lent = ap (λ (x : FrameOutcome Parts). lent_after c.args.out.now (decided x)) (sym o);
    }
