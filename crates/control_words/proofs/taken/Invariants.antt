-- `control_words::taken` meets its contract. The invariant: the objects taken, followed by those to be taken of what is left, are the whole.
-- Assumes nothing.
use Rattle.std.proofs.Common.{◌≡◌, ◌++◌, ◌≤◌, map, length, take, drop}
use Rattle.std.proofs.Math.Option.{some}
use Rattle.laws.specs.Lists.{filter}
use Rattle.control_words.proofs.taken.Given as goal

abbrev pub invariant-loop-c : goal.invariant-loop-c
invariant-loop-c g l =
    let m = g.W.ObjectWords in
    (take l.count (map m.object_of l.items) ++ map some (filter m.is_kind (drop l.c-index l.c-items)) ≡ map some (filter m.is_kind l.c-items))
    × (length l.items ≡ 8) × (l.count ≤ l.c-index) × (l.c-index ≤ length l.c-items) × (length l.c-items ≤ 8)
