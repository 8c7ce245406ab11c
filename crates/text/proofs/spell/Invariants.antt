-- `text::spell` meets its contract. The invariant: the digits of what is left, before those that stand, are the digits of the number.
-- Assumes nothing.
use Rattle.text.specs.Words.{shown_by}
use mathlib.Core.Path.{◌≡◌}
use mathlib.Core.List.{◌++◌}
use lib.ListN.{length, drop}
use Prim.Native.Nat.{◌-◌, ◌^◌, ◌≤◌, ◌<◌}
use Rattle.text.proofs.spell.Given as goal

abbrev pub invariant-loop-rest : goal.invariant-loop-rest
invariant-loop-rest l = (shown_by (l.i - 1) l.rest ++ drop l.i l.t ≡ shown_by 19 l.v) × (length l.t ≡ 20) × (0 < l.i) × (l.i ≤ 20) × (l.rest < 10 ^ l.i)

abbrev pub decreases-loop-rest : goal.decreases-loop-rest
decreases-loop-rest l = l.rest
