-- `select_latch::arm` meets its contract: the copied bytes are the objects.
-- Assumes nothing.
use mathlib.Core.Path.{ap, ◌∙◌}
use native.Mathlib.Omega.{arith}
use lib.ListN.{take, length}
use Rattle.octets.proofs.Splice.{stored-splice}
use Rattle.select_latch.specs.Select.{selected, latch_of}
use Rattle.select_latch.proofs.arm.Goals as goal

pub returns : goal.returns
unfolding latch_of
returns c =
    let a = c.args in (
      ap (selected a.group a.sequence.0 a.time) (ap (take (length a.o.now)) c.copy.ensures ∙ stored-splice _ 0 a.o.now (omega arith)),
      c.requires,
    )
