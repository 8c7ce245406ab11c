-- `link::take_frame` meets its contract: what was checked is decided, and only user data that is handed on is copied.
-- Assumes nothing.
use mathlib.Core.Path.{◌≡◌, refl, sym, ap, ◌∙◌}
use lib.ListN.{length}
use Rattle.std.specs.Prelude.{Result, Ok, Err}
use Rattle.std.proofs.lemmas.Result.{err_from_is_err_and}
use Rattle.frame.specs.FrameOutcome.{refused_by}
use Rattle.frame.specs.Frame.{checked_of}
use Rattle.link.specs.declared.Taken.{Taken}
use Rattle.link.specs.declared.Taken.TheVariants.{UserData, Reply}
use Rattle.link.specs.declared.TakeRefusal.{TakeRefusal}
use Rattle.link.specs.Station.{station, takes, after_check}
use Rattle.link.proofs.Laws.{station-lent, station-is, taken-by, Promised, after-check, handed-right}
use Rattle.link.proofs.take_frame.Goals as goal
use Rattle.link.proofs.take_frame.Goals.{In_ok-f}

-- the outcome is that of the frame that was checked
outcome : (m : In_ok-f) → let a = m.args in station (length a.out.now) a.st a.s.now ≡ takes a.st (checked_of (Ok m.in_ok-f.f) a.s.now)
outcome m =
    let a = m.args in
    station-is (length a.out.now) a.st a.s.now (Ok m.in_ok-f.f) m.if-out-lt-USER_MAX.false m.in_ok-f.ensures.0

-- and the answer, that of its fields, is what is promised of it
promised : (m : In_ok-f) (t : Result Taken TakeRefusal) → let a = m.args in t ≡ after_check a.st (Ok m.in_ok-f.f)
    → Promised t (takes a.st (checked_of (Ok m.in_ok-f.f) a.s.now)) a.s.now a.out.now
promised m t e =
    let a = m.args in
    rw e (after-check a.st (Ok m.in_ok-f.f) a.s.now a.out.now m.in_ok-f.ensures.1)

pub returns-then-out-lt-USER_MAX : goal.returns-then-out-lt-USER_MAX
returns-then-out-lt-USER_MAX c =
    let a = c.args in
    taken-by _ _ _ a.out.now _ (refused_by 33) (station-lent (length a.out.now) a.st a.s.now c.if-out-lt-USER_MAX.true) (refl, refl)

pub returns-in_err-f : goal.returns-in_err-f
returns-in_err-f c =
    let a = c.args in
    let p = err_from_is_err_and c.from_residual.result c.from_residual.ensures.1 in
    let e = station-is (length a.out.now) a.st a.s.now (Err c.in_err-f.field-0.0) c.if-out-lt-USER_MAX.false c.in_err-f.ensures.0 in
    rw (p.1, p.2) (taken-by _ _ _ _ _ _ e (refl, refl))

pub returns-in_err-taken : goal.returns-in_err-taken
returns-in_err-taken c =
    let m = (goal.at.returns-in_err-taken c).In_ok-f in
    let p = err_from_is_err_and c.from_residual-in_err-taken.result c.from_residual-in_err-taken.ensures.1 in
    rw (p.1, p.2) (taken-by _ _ _ _ _ _ (outcome m) (promised m _ c.in_err-taken.ensures))

pub returns-in-UserData : goal.returns-in-UserData
returns-in-UserData c =
    let a = c.args in
    let m = (goal.at.returns-in-UserData c).In_ok-f in
    let w = promised m (Ok (UserData c.in-UserData.n)) (ap Ok (sym c.in-UserData.is) ∙ c.in_ok-taken.ensures) in
    let t = handed-right c.in-UserData.n a.s.now a.out.now w.1.0 in
    taken-by _ _ _ _ _ _ (outcome m ∙ w.1.1) (t.0, c.copy_user.ensures ∙ t.1)

pub returns-in_default : goal.returns-in_default
returns-in_default c =
    let m = (goal.at.returns-in_default c).In_ok-f in
    let is = c.in_default.is in
    rw is (taken-by _ _ _ _ _ _ (outcome m) (promised m (Ok (Reply c.in_default.field-0)) (ap Ok (sym is) ∙ c.in_ok-taken.ensures)))
