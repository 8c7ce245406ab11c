-- A run of analogs that is being written: the place of its header, and the header, which is put when the run ends.
-- Assumes nothing.
use Rattle.std.specs.Prelude.{ℕ, ◌+◌, ◌≤◌, ◌<◌, List, [], Option, Some, None}
use Rattle.static_objects.specs.Static.{static_heading}
use Rattle.read_headers.specs.declared.PointKind.TheVariants as K
use Rattle.static_objects.specs.declared.Run.{Run}

abbrev pub run_place : Option Run → ℕ
run_place None = 0
run_place (Some r) = r.at

abbrev pub run_heading : Option Run → List ℕ
run_heading None = []
run_heading (Some r) = static_heading K.Analog r.variation r.first (r.more + 1)

-- its header has its place in so many bytes
abbrev pub RunFits : Option Run → ℕ → Type 0
RunFits None n = Unit {0}
RunFits (Some r) n = (r.at + 7 ≤ n) × (r.first + r.more < 200000)
