-- `event_store::classes_pending` meets its contract. Assumes nothing.
use Rattle.event_store.specs.EventWords.{slots_in}
use Rattle.events.proofs.SeenLaws.{Noting}
use Rattle.events.specs.BufferView.{is_pending}
use Rattle.event_store.proofs.classes_pending.Given as goal

abbrev pub invariant-loop-i : goal.invariant-loop-i
invariant-loop-i l = (Noting (is_pending 1) (slots_in l.held) l.i-end l.one l.i) × (Noting (is_pending 2) (slots_in l.held) l.i-end l.two l.i) × (Noting (is_pending 3) (slots_in l.held) l.i-end l.three l.i)
