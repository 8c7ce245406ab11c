-- `receiver::receive_from` meets its contract: ten bytes, what the rule says of them, and the body where it waits.
-- Assumes nothing.
use mathlib.Core.Path.{◌≡◌, sym, ap, ap₂, ◌∙◌, subst}
use mathlib.Core.List.{List, ◌++◌}
use Prim.Native.Nat.{ℕ, ◌+◌, ◌-◌}
use native.Mathlib.Omega.{arith}
use lib.ListN.{length, take, drop}
use Rattle.laws.proofs.Filling.{to_end}
use Rattle.receiver.specs.Receiver.{rule, waits, decided_by, Call, more, ends, goes_over, Meets}
use Rattle.receiver.proofs.KeptLaws.{waits-checked}
use Rattle.receiver.proofs.CallLaws.{more-none, waiting-meets}
use Rattle.receiver.proofs.BodyLaws.{part-used-up, ten-is, ten-goes, ten-ends, ten-at}
use Rattle.receiver.proofs.receive_from.Goals as goal
use Rattle.receiver.proofs.receive_from.Goals.{After-is_short}

-- ten bytes were gathered
module _ (c : After-is_short) where
  abbrev memory : List ℕ
  memory = c.gather-k.new.memory

  ten : c.args.n + c.gather-k.result ≡ 10
  ten = ten-is c.args.memory.now c.args.n c.requires.0 (omega arith) c.args.piece.now _ c.gather-k.ensures.0 c.if-n-k-lt-HEADER.false

  gathered : take 10 memory ≡ take c.args.n c.args.memory.now ++ take c.gather-k.result c.args.piece.now
  gathered = ap (λ (j : ℕ). take j memory) (sym ten) ∙ c.gather-k.ensures.1

  told : waits (take 10 memory) ≡ c.is_short.result
  told = waits-checked c.check_front-r.result (take 10 memory) c.check_front-r.ensures.said ∙ sym c.is_short.ensures

pub returns-then-n-k-lt-HEADER : goal.returns-then-n-k-lt-HEADER
returns-then-n-k-lt-HEADER c =
    let a = c.args in
    let g = c.gather-k.ensures in
    let u = part-used-up a.memory.now a.n c.requires.0 (omega arith) a.piece.now _ g.0 c.if-n-k-lt-HEADER.true in
    let w = c.waiting.ensures in
    subst (λ (x : Call). Meets c.waiting.result x c.gather-k.new.memory a.out.now a.out.now) (more-none _)
    (waiting-meets c.waiting.result (take a.n a.memory.now) a.piece.now _ a.out.now 0 a.n _ w.0 (w.1 ∙ omega arith) w.2 (omega arith) g.2 g.1 u.0 u.1)

pub receive_body-requires-then-is_short : goal.receive_body-requires-then-is_short
receive_body-requires-then-is_short c =
    let x = c.check_front-r.ensures in
    (record { there = x.there; most = omega arith; waiting = told (goal.at.receive_body-requires-then-is_short c).After-is_short ∙ c.if-is_short.true }, omega arith, omega arith, c.requires.1)

pub returns-then-is_short : goal.returns-then-is_short
returns-then-is_short c =
    let a = c.args in
    let w = told (goal.at.returns-then-is_short c).After-is_short ∙ c.if-is_short.true in
    let n : ℕ = c.gather-k.result in
    let k = ten-goes a.memory.now a.n c.requires.0 (omega arith) a.piece.now _ c.gather-k.ensures.0 (ap waits (sym (gathered (goal.at.returns-then-is_short c).After-is_short)) ∙ w) in
    subst (λ (x : Call). Meets c.receive_body-then-is_short.result x c.receive_body-then-is_short.new.memory a.out.now c.receive_body-then-is_short.new.out)
    (ap (λ (l : List ℕ). more n (goes_over (take 10 (memory (goal.at.returns-then-is_short c).After-is_short)) l)) (to_end a.piece.now n) ∙ ap (λ (l : List ℕ). more n (goes_over l (drop n a.piece.now))) (gathered (goal.at.returns-then-is_short c).After-is_short) ∙ sym k)
    c.receive_body-then-is_short.ensures

pub decide-requires : goal.decide-requires
decide-requires c =
    let a = c.args in
    let x = c.check_front-r.ensures in
    let w = told (goal.at.decide-requires c).After-is_short ∙ c.if-is_short.false in
    let d = ten-at a.memory.now a.n c.requires.0 (omega arith) a.piece.now _ c.gather-k.ensures.0 c.if-n-k-lt-HEADER.false (ap waits (sym (gathered (goal.at.decide-requires c).After-is_short)) ∙ w) in
    (x, sym x.there ∙ subst (λ (s : List ℕ). length s ≡ decided_by (rule s) s) (sym (gathered (goal.at.decide-requires c).After-is_short)) d, c.requires.1, omega arith)

pub returns : goal.returns
returns c =
    let a = c.args in
    let w = told (goal.at.returns c).After-is_short ∙ c.if-is_short.false in
    let j : ℕ = c.gather-k.result in
    let count : j - 1 + 1 ≡ j = omega arith in
    let k = ten-ends a.memory.now a.n c.requires.0 (omega arith) a.piece.now _ c.gather-k.ensures.0 c.if-n-k-lt-HEADER.false (ap waits (sym (gathered (goal.at.returns c).After-is_short)) ∙ w) in
    subst (λ (x : Call). Meets c.decide.result x c.decide.new.memory a.out.now c.decide.new.out) (ap₂ ends count (gathered (goal.at.returns c).After-is_short) ∙ sym k) c.decide.ensures
