-- `transport::write_segment` meets its contract: the transport byte, and then at most 249 bytes of the fragment.
-- Assumes nothing.
use mathlib.Core.Path.{sym, ◌∙◌}
use Rattle.transport.proofs.Laws.{written_is, sender-is, splice-is}
use Rattle.transport.proofs.write_segment.Goals as goal

pub returns : goal.returns
returns c =
    let a = c.args in
    let f = a.fragment.now in
    let at = c.from-at.result in
    let e = c.min-e.result in (
      sym (written_is a.p f at e c.from-at.ensures.0 c.from-at.ensures.1 c.min-e.ensures),
      sender-is a.p f at _ _ c.from-at.ensures.0 c.next_sequence.ensures c.after.ensures,
      c.copy.ensures ∙ splice-is a.p f at e c.from-at.ensures.0 c.from-at.ensures.1 c.min-e.ensures a.out.now _ c.transport_header-h.ensures,
    )
