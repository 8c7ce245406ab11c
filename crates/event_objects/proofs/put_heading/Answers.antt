-- `event_objects::put_heading` meets its contract.
-- Assumes nothing.
use mathlib.Core.Path.{refl, ◌∙◌}
use native.Mathlib.Omega.{arith}
use lib.ListN.{length-set}
use Rattle.objects.proofs.WriterLaws.{three-put}
use Rattle.event_objects.proofs.put_heading.Goals as goal

pub bounds-out-at-2 : goal.bounds-out-at-2
bounds-out-at-2 c = simp length-set (omega arith)

pub bounds-out-at-3 : goal.bounds-out-at-3
bounds-out-at-3 c = simp length-set (omega arith)

pub put2-requires : goal.put2-requires
put2-requires c = simp length-set (omega arith)

pub shape_of-out : goal.shape_of-out
shape_of-out c = c.put2.auto.b ∙ simp length-set

pub returns : goal.returns
returns c = rw (← c.group.ensures, ← c.variation.ensures) (refl, c.put2.ensures ∙ three-put _ _ _ _ _ _)
