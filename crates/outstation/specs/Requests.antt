-- What a fragment asks, as the outstation and the event book both read it (document 01, "What the control room is told").
-- Assumes nothing.
use Rattle.std.specs.Prelude.{ℕ, ◌-◌, Bool, not, cond, ◌&&◌, List, eqb, leb}
use Rattle.laws.specs.Outcome.{Outcome, accepted, refused}
use Rattle.application.specs.declared.Fault.{Fault}
use Rattle.application.specs.Fragment.{Kind, confirm, request, classified, objects_of}
use Rattle.points.specs.PointsView.{PointsView}
use Rattle.read_headers.specs.declared.Header.{Header}
use Rattle.read_headers.specs.Parse.{Parsed, headers, fault}
use Rattle.static_objects.specs.Static.{asked_of}

-- what a fragment asks: nothing that is taken (31); a CONFIRM; a faultless READ of these headers; a READ with this fault; another
-- request
pub data Ask : Type 0 where
  malformed : Ask
  confirms : (sequence : ℕ) (uns : Bool) → Ask
  reads : (sequence : ℕ) → List Header → Ask
  misreads : (sequence : ℕ) → Fault → Ask
  asks : (sequence function : ℕ) → Ask

abbrev pub read_ask : ℕ → Parsed → Ask
read_ask q (headers hs) = reads q hs
read_ask q (fault e) = misreads q e

-- READ is function 1
abbrev pub kind_ask : PointsView → List ℕ → Kind → Ask
kind_ask i f (confirm q uns) = confirms q uns
kind_ask i f (request q function) = cond (eqb function 1) (read_ask q (asked_of i (objects_of f))) (asks q function)

abbrev pub outcome_ask : PointsView → List ℕ → Outcome Kind → Ask
outcome_ask i f (accepted k) = kind_ask i f k
outcome_ask i f (refused n) = malformed

unfoldable pub ask : PointsView → List ℕ → Ask
ask i f = outcome_ask i f (classified f)

-- ---- a CONFIRM: "An accepted CONFIRM has that sequence, UNS 0, and comes no later than the confirm time"

unfoldable pub is_confirmed : (confirm_time sequence : ℕ) (uns : Bool) (time awaited built : ℕ) → Bool
is_confirmed confirm_time sequence uns time awaited built = not uns && (eqb sequence awaited && leb (time - built) confirm_time)
