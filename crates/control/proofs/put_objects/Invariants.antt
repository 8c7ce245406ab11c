-- `control::put_objects` meets its contract. The invariant: putting the objects that are left from where the loop stands gives the whole.
-- Assumes nothing.
use mathlib.Core.Path.{◌≡◌}
use Prim.Native.Nat.{◌≤◌, ◌+◌, ◌-◌}
use lib.ListN.{length, take, drop}
use Rattle.octets.specs.Bytes.{splice}
use Rattle.control.specs.Objects.{span}
use Rattle.control.specs.Status.{echoed}
use Rattle.control.proofs.put_objects.Given as goal

abbrev pub invariant-loop-i : goal.invariant-loop-i
invariant-loop-i l =
    (splice l.out (l.at + l.from) (echoed l.w l.z (drop l.i (take l.n l.ss)) (drop l.from l.b)) ≡ splice l.initial.out l.at (echoed l.w l.z (take l.n l.ss) l.b)) × (length l.out ≡ length l.initial.out)
    × (l.i ≤ l.n) × (l.from + span l.w l.z (l.n - l.i) ≡ span l.w l.z l.n)
