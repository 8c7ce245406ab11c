-- `transport::repeats` meets its contract: the transport byte decides, and else the data.
-- Assumes nothing.
use mathlib.Core.Path.{◌≡◌, sym, ap, ◌∙◌}
use Prim.Native.Nat.{ℕ, ◌-◌, min}
use native.Mathlib.Omega.{arith}
use lib.ListN.{length}
use Rattle.transport.proofs.Laws.{end_is, other-head, same_head, rest-is}
use Rattle.transport.proofs.repeats.Goals as goal

pub returns-then-segment-transport_header : goal.returns-then-segment-transport_header
returns-then-segment-transport_header c =
    let a = c.args in
    sym (other-head a.a a.lent.now a.segment.now (omega arith) (λ e. c.if-segment-transport_header.true (e ∙ sym c.transport_header.ensures)))

pub returns : goal.returns
returns c =
    let a = c.args in
    let s = a.segment.now in
    let d = a.lent.now in
    let t : c.min-to.result ≡ min a.a.len (length d) = c.min-to.ensures in
    let f : c.min-from.result ≡ min (a.a.len - a.a.last_len) c.min-to.result = c.min-from.ensures ∙ ap (λ (n : ℕ). min n c.min-to.result) c.saturating_sub.ensures in
    rw (c.equal.ensures, rest-is s) (same_head a.a d s _ (omega arith) (c.if-segment-transport_header.false ∙ c.transport_header.ensures) (end_is _ _ _ _ d t f))
