-- `bench::read_full` meets its contract. The invariant: what was read is within the text; the measure is the room left.
-- Assumes nothing.
use Rattle.std.proofs.Common.{◌-◌, ◌≤◌, length}
use Rattle.bench.proofs.read_full.Given as goal

abbrev pub invariant-loop-done : goal.invariant-loop-done
invariant-loop-done g l = l.done ≤ length l.t

abbrev pub decreases-loop-done : goal.decreases-loop-done
decreases-loop-done g l = length l.t - l.done
