-- `receiver::receive_body` meets its contract: bytes up to the stated size, and what the rule says of them.
-- Assumes nothing.
use mathlib.Core.Path.{◌≡◌, sym, ap, ap₂, ◌∙◌, subst}
use mathlib.Core.List.{List}
use Prim.Native.Nat.{ℕ, ◌+◌, ◌-◌}
use native.Mathlib.Omega.{arith}
use lib.ListN.{length, take}
use Rattle.receiver.specs.Receiver.{rule, decided_by, Call, more, ends, Meets}
use Rattle.receiver.proofs.CallLaws.{waiting-meets}
use Rattle.receiver.proofs.BodyLaws.{least, wanted, used-up, whole_is, whole-ends, whole-at}
use Rattle.receiver.proofs.receive_body.Goals as goal

pub stated_size-size-requires : goal.stated_size-size-requires
stated_size-size-requires c = least c.args.memory.now c.args.n c.requires.0 c.requires.1

pub gather-k-requires : goal.gather-k-requires
gather-k-requires c =
    let z = c.stated_size-size.ensures in
    (omega (arith, wanted c.args.memory.now c.args.n c.requires.0 c.requires.1), z.1)

pub returns-then-n-k : goal.returns-then-n-k
returns-then-n-k c =
    let a = c.args in
    let z = c.stated_size-size.ensures in
    let g = c.gather-k.ensures in
    let u = used-up a.memory.now a.n c.requires.0 c.requires.1 a.piece.now _ _ z.0 g.0 c.if-n-k.true in
    let w = c.waiting.ensures in
    waiting-meets c.waiting.result (take a.n a.memory.now) a.piece.now _ a.out.now a.taken a.n _ w.0 w.1 w.2 (omega arith) g.2 g.1 u.0 u.1

pub overflow_sub-taken : goal.overflow_sub-taken
overflow_sub-taken c =
    let z = c.stated_size-size.ensures in
    let h = c.if-n-k.false in
    omega (arith, wanted c.args.memory.now c.args.n c.requires.0 c.requires.1, z.0)

pub decide-requires : goal.decide-requires
decide-requires c =
    let a = c.args in
    let z = c.stated_size-size.ensures in
    let g = c.gather-k.ensures in
    let h = c.if-n-k.false in
    let x = c.check_front-r.ensures in
    let i = whole_is a.memory.now a.n c.requires.0 c.requires.1 a.piece.now _ _ z.0 g.0 h in
    let d = whole-at a.memory.now a.n c.requires.0 c.requires.1 a.piece.now _ _ z.0 g.0 h in
    let e = ap (λ (j : ℕ). take j c.gather-k.new.memory) (sym i) ∙ g.1 in
    (x, sym x.there ∙ subst (λ (s : List ℕ). length s ≡ decided_by (rule s) s) (sym e) d, c.requires.3, omega arith)

pub returns : goal.returns
returns c =
    let a = c.args in
    let z = c.stated_size-size.ensures in
    let g = c.gather-k.ensures in
    let h = c.if-n-k.false in
    let i = whole_is a.memory.now a.n c.requires.0 c.requires.1 a.piece.now _ _ z.0 g.0 h in
    let e = ap (λ (j : ℕ). take j c.gather-k.new.memory) (sym i) ∙ g.1 in
    let one = wanted a.memory.now a.n c.requires.0 c.requires.1 in
    let j : ℕ = c.gather-k.result in
    let count : a.taken + j - 1 + 1 ≡ a.taken + j = omega (arith, one, z.0, h) in
    let k = whole-ends a.memory.now a.n c.requires.0 c.requires.1 a.piece.now _ _ z.0 g.0 h in
    subst (λ (x : Call). Meets c.decide.result x c.decide.new.memory a.out.now c.decide.new.out) (ap₂ ends count e ∙ sym (ap (more a.taken) k)) c.decide.ensures
