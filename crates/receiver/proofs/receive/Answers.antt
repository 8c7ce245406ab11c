-- `receiver::receive` meets its contract: 33 first, then the call from what the memory keeps.
-- Assumes nothing.
use mathlib.Core.Path.{refl}
use Rattle.receiver.proofs.CallLaws.{received-lent, received-over}
use Rattle.receiver.proofs.receive.Goals as goal

pub returns-then-out-lt-USER_MAX : goal.returns-then-out-lt-USER_MAX
returns-then-out-lt-USER_MAX c =
    let a = c.args in
    received-lent _ a.kept a.memory.now a.piece.now a.out.now c.if-out-lt-USER_MAX.true refl refl refl

pub returns : goal.returns
returns c =
    let a = c.args in
    let k = c.kept_length-n.ensures in
    received-over _ a.kept c.kept_length-n.result a.memory.now _ a.piece.now a.out.now _ c.if-out-lt-USER_MAX.false k.0 c.receive_from.ensures
