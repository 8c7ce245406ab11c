-- `transport::receive` meets its contract: what is stored has room, and a refusal without FIR forgets the unfinished fragment.
-- Assumes nothing.
use mathlib.Core.Path.{refl, sym, ap, ◌∙◌}
use Prim.Native.Nat.{◌+◌, ◌≤◌}
use native.Mathlib.Omega.{arith}
use lib.ListN.{length}
use Rattle.std.specs.Prelude.{Ok}
use Rattle.laws.specs.Limits.{fragment_max}
use Rattle.transport.specs.Segment.{data_of}
use Rattle.transport.specs.Receive.{place_of}
use Rattle.transport.proofs.Laws.{received-by, got-next, place-fits, place-forgets, rest-is, rest-length}
use Rattle.transport.proofs.receive.Goals as goal
use Rattle.transport.proofs.receive.Goals.{In-Ok-Some}

fits : (c : In-Ok-Some) → c.in-Ok-Some.at + length (data_of c.args.segment.now) ≤ fragment_max
fits c = place-fits c.args.a c.args.out.now c.args.segment.now _ (sym c.in-Ok-Some.ensures ∙ ap (λ p. place_of (Ok p)) c.in-Ok-Some.field-0-is)

pub copy-requires-in-Ok-Some : goal.copy-requires-in-Ok-Some
copy-requires-in-Ok-Some c =
    let s = c.args.segment.now in
    simp (rest-is s, rest-length s) (omega (arith, rest-length s, fits (goal.at.copy-requires-in-Ok-Some c).In-Ok-Some))

pub overflow_add-at : goal.overflow_add-at
overflow_add-at c = omega (arith, rest-length c.args.segment.now, fits (goal.at.overflow_add-at c).In-Ok-Some)

pub returns-in-Err : goal.returns-in-Err
returns-in-Err c =
    let a = c.args in
    let e = sym c.in-Err.ensures in
    let n = got-next a.out.now a.a a.segment.now (omega arith) (omega arith) (omega arith) c.if-header-eq1.false in
    received-by _ _ _ _ _ _ (n ∙ e) refl (c.nothing_begun.ensures ∙ rw (place-forgets _ _ _ _ e)) refl
