-- `receiver::kept_length` meets its contract: less than a header waits, and else the rule says whether the memory waits.
-- Assumes nothing.
use mathlib.Core.Path.{◌≡◌, sym, ◌∙◌}
use native.Mathlib.Omega.{arith}
use lib.ListN.{take}
use Rattle.receiver.specs.Receiver.{waits}
use Rattle.receiver.proofs.KeptLaws.{kept-many, kept-is, kept-none, begun-zero, begun-few, waits-checked}
use Rattle.receiver.proofs.kept_length.Goals as goal
use Rattle.receiver.proofs.kept_length.Goals.{After-is_short}

-- whether the bytes wait
told : (c : After-is_short) → let a = c.args in waits (take a.kept a.memory.now) ≡ c.is_short.result
told c = waits-checked c.check_front.result _ c.check_front.ensures.said ∙ sym c.is_short.ensures

pub returns-then-kept-gt-KEPT_MAX : goal.returns-then-kept-gt-KEPT_MAX
returns-then-kept-gt-KEPT_MAX c = let a = c.args in (sym (kept-many a.kept a.memory.now c.if-kept-gt-KEPT_MAX.true), begun-zero a.memory.now)

pub returns-then-kept-lt-HEADER : goal.returns-then-kept-lt-HEADER
returns-then-kept-lt-HEADER c =
    let a = c.args in
    let b = begun-few a.kept a.memory.now c.if-kept-lt-HEADER.true (omega arith) in
    (sym (kept-is a.kept a.memory.now b.most b.waiting), b)

pub returns-then-is_short : goal.returns-then-is_short
returns-then-is_short c =
    let a = c.args in
    let w = told (goal.at.returns-then-is_short c).After-is_short ∙ c.if-is_short.true in
    (sym (kept-is a.kept a.memory.now (omega arith) w), record { there = c.check_front.ensures.there; most = omega arith; waiting = w })

pub returns-else-is_short : goal.returns-else-is_short
returns-else-is_short c =
    let a = c.args in
    (sym (kept-none a.kept a.memory.now (omega arith) (told (goal.at.returns-else-is_short c).After-is_short ∙ c.if-is_short.false)), begun-zero a.memory.now)
