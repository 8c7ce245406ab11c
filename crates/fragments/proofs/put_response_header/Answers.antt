-- `fragments::put_response_header` meets its contract.
-- Assumes nothing.
use mathlib.Core.Path.{ap, ◌∙◌}
use Rattle.octets.specs.Bytes.{splice}
use Rattle.application.specs.Response.{response_of}
use Rattle.events.specs.declared.Classes.{Classes}
use Rattle.events.specs.BufferView.{buffer_view}
use Rattle.fragments.proofs.put_response_header.Goals as goal

pub returns : goal.returns
unfolding buffer_view
returns c =
    let a = c.args in
    c.put_response.ensures
    ∙ ap
    (λ (x : Classes).
    splice a.out.now 0
    (response_of a.q.0 a.s.con
    (record { class_1 = x.one; class_2 = x.two; class_3 = x.three; restart = a.restarted; dropped = a.t.overflow }) a.s.fault))
    c.classes_pending-c.ensures
