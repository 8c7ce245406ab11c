-- `text::digits_of` meets its contract. The invariant: judging the rest from where the loop stands gives the judgement of the whole.
-- Assumes nothing.
use Prim.Native.Nat.{◌-◌, ◌≤◌}
use lib.ListN.{length, drop}
use Rattle.text.specs.Words.{whole_within}
use mathlib.Core.Path.{◌≡◌}
use Rattle.text.proofs.digits_of.Given as goal

abbrev pub invariant-loop-b : goal.invariant-loop-b
invariant-loop-b l = (whole_within l.limit l.a (drop l.b-index l.w) ≡ whole_within l.limit 0 l.w) × (l.a ≤ l.limit) × (l.b-index ≤ length l.w)
