-- `points::fresh_analog` meets its contract. Assumes nothing.
use lib.Ieee.{of_bits}
use Rattle.points.specs.Setup.{fresh_analog}
use Rattle.points.proofs.fresh_analog.Goals as goal
use Rattle.points.proofs.fresh_analog.Goals.{in-Int32, in-Int16, in-Float32}

pub returns : goal.returns
unfolding fresh_analog of_bits
returns c =
    elim c.match-a.branch [
      | in-Int32 w ↦ rw (c.fresh_with.ensures, w.value-is, w.in-Int32.is, w.fresh_gate.ensures)
      | in-Int16 w ↦ rw (c.fresh_with.ensures, w.value-is, w.in-Int16.is, w.fresh_gate-in-Int16.ensures)
      | in-Float32 w ↦ rw (c.fresh_with.ensures, w.value-is, w.in-Float32.is, w.fresh_gate-in-Float32.ensures)
    ]
