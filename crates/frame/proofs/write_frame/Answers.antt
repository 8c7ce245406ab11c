-- `frame::write_frame` meets its contract: the two refusals by their tests, and else the header with its check and the blocks next to it.
-- Assumes nothing.
use mathlib.Core.Path.{refl, ap}
use native.Mathlib.Omega.{arith}
use lib.ListN.{length}
use Rattle.laws.specs.Outcome.{accepted, refused}
use Rattle.frame.specs.Frame.{Parts, parts, encode}
use Rattle.frame.proofs.Laws.{into-lent, into-long, into, length-encode, splice-encode, written-by}
use Rattle.frame.proofs.write_frame.Goals as goal

pub returns-then-out-lt-FRAME_MAX : goal.returns-then-out-lt-FRAME_MAX
returns-then-out-lt-FRAME_MAX c =
    let a = c.args in
    written-by _ _ a.out.now _ (refused 33) (into-lent (length a.out.now) (parts a.control a.destination a.source a.user.now) c.if-out-lt-FRAME_MAX.true) refl refl

pub returns-then-n-gt-USER_MAX : goal.returns-then-n-gt-USER_MAX
returns-then-n-gt-USER_MAX c =
    let a = c.args in
    written-by _ _ a.out.now _ (refused 16) (into-long (length a.out.now) (parts a.control a.destination a.source a.user.now) c.if-out-lt-FRAME_MAX.false (omega arith)) refl refl

pub returns : goal.returns
returns c =
    let a = c.args in
    let f : Parts = parts a.control a.destination a.source a.user.now in
    written-by _ _ a.out.now _ (accepted (encode f)) (into (length a.out.now) f (omega arith) (omega arith)) (ap accepted (omega (arith, length-encode f))) (cc (splice-encode a.out.now f))
