-- `frame::read_frame` meets its contract: what was checked, and its user data copied.
-- Assumes nothing.
use mathlib.Core.Path.{refl, sym, ◌∙◌}
use lib.ListN.{length}
use Rattle.std.specs.Prelude.{Ok}
use Rattle.std.proofs.lemmas.Result.{err_from_is_err_and}
use Rattle.frame.specs.FrameOutcome.{refused_by}
use Rattle.frame.proofs.Laws.{decode-lent, decode-room, read_by, fields-checked}
use Rattle.frame.proofs.read_frame.Goals as goal

pub returns-then-out-lt-USER_MAX : goal.returns-then-out-lt-USER_MAX
returns-then-out-lt-USER_MAX c =
    let a = c.args in
    read_by _ _ a.out.now _ (refused_by 33) (decode-lent (length a.out.now) a.s.now c.if-out-lt-USER_MAX.true) refl refl

pub returns-in_err-frame : goal.returns-in_err-frame
returns-in_err-frame c =
    let a = c.args in
    let p = err_from_is_err_and c.from_residual.result c.from_residual.ensures.1 in
    rw (p.1, p.2) (read_by _ _ _ _ _ (decode-room (length a.out.now) a.s.now c.if-out-lt-USER_MAX.false ∙ sym c.in_err-frame.ensures.0) refl refl)

pub returns : goal.returns
returns c =
    let a = c.args in
    let e = c.in_ok-frame.ensures in
    read_by _ _ _ _ _ (decode-room (length a.out.now) a.s.now c.if-out-lt-USER_MAX.false ∙ sym e.0)
    (fields-checked (Ok c.in_ok-frame.frame) a.s.now e.1) c.copy_user.ensures
