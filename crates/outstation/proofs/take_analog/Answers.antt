-- `outstation::take_analog` meets its contract. Assumes nothing.
use Rattle.outstation.proofs.HeadLaws.{analog-taken}
use native.Mathlib.Omega.{arith}
use Rattle.outstation.specs.ReadingParts.{with_changes}
use Rattle.outstation.proofs.take_analog.Goals as goal

pub returns : goal.returns
returns c =
    let i = c.args in
    λ h b.
    analog-taken (with_changes h i.n i.m) (record { binaries = b; analogs = i.analogs.now; held = i.held.now }) i.r (omega (arith, c.requires.1)) i.t _ _ _
    (rw c.from.ensures at c.store_analog.ensures) (rw c.event_of-e.ensures at (c.taken.ensures h i.n))
