-- `frame::first_wrong` meets its contract: the blocks passed so far are right, and those that are left decide.
-- Assumes nothing.
use mathlib.Core.Path.{◌≡◌}
use Prim.Native.Nat.{◌+◌, ◌-◌, ◌*◌}
use lib.ListN.{drop}
use Rattle.frame.specs.Frame.{first_wrong}
use Rattle.frame.proofs.first_wrong.Given as goal

abbrev pub invariant-loop-i : goal.invariant-loop-i
invariant-loop-i l = first_wrong l.k l.b ≡ l.i + first_wrong (l.k - l.i) (drop (18 * l.i) l.b)
