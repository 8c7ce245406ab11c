-- `event_objects::run_length` meets its contract. Assumes nothing.
use Rattle.event_objects.proofs.KindLaws.{kinds}
use Rattle.event_objects.specs.Events.{lead_kind}
use lib.Seq.{slice}
use Prim.Native.Nat.{◌+◌, ◌≤◌}
use mathlib.Core.Path.{◌≡◌}
use Rattle.event_objects.proofs.run_length.Given as goal

abbrev pub invariant-loop-i : goal.invariant-loop-i
invariant-loop-i l = (l.m + lead_kind l.kind (slice l.i l.to (kinds l.held)) ≡ lead_kind l.kind (slice l.from l.to (kinds l.held))) × (l.m ≤ l.i) × (l.m ≤ l.to)
