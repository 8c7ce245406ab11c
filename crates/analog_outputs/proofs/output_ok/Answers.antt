-- `analog_outputs::output_ok` meets its contract. Assumes nothing.
use mathlib.Core.Path.{◌≡◌, sym, ◌∙◌}
use mathlib.Core.Bool.{◌&&◌}
use lib.Ieee.{le}
use lib.Ieee.Scale.{finite}
use Rattle.analog_outputs.specs.Output.{output_ok}
use Rattle.points.proofs.StdLaws.{finite-is}
use Rattle.analog_outputs.proofs.OutputLaws.{all_pass, one-fails}
use Rattle.analog_outputs.proofs.output_ok.Goals as goal
use Rattle.analog_outputs.proofs.output_ok.Goals.{Joined-is_finite, then-is_finite, else-is_finite}

-- the first two of three tests, which `&&` asks in turn
joined : (c : Joined-is_finite) → c.if-is_finite.value ≡ (finite c.in-Float32.low && finite c.in-Float32.high)
joined c =
    let told : finite c.in-Float32.low ≡ c.is_finite.result = sym (c.is_finite.ensures.value ∙ finite-is c.in-Float32.low) in
    elim c.if-is_finite.branch [
      | then-is_finite w ↦ rw (told ∙ w.if-is_finite.true) (w.value-is ∙ w.is_finite-then-is_finite.ensures.value ∙ finite-is c.in-Float32.high)
      | else-is_finite w ↦ rw (told ∙ w.if-is_finite.false) (w.value-is ∙ w.if-is_finite.false)
    ]

pub returns-then-is_finite-2 : goal.returns-then-is_finite-2
unfolding output_ok
returns-then-is_finite-2 c =
    rw c.in-Float32.is (all_pass (finite c.in-Float32.low) (finite c.in-Float32.high) (le c.in-Float32.low c.in-Float32.high) (joined (goal.at.returns-then-is_finite-2 c).Joined-is_finite) c.if-is_finite-2.true)

pub returns-else-is_finite-2 : goal.returns-else-is_finite-2
unfolding output_ok
returns-else-is_finite-2 c =
    rw c.in-Float32.is (one-fails (finite c.in-Float32.low) (finite c.in-Float32.high) (le c.in-Float32.low c.in-Float32.high) (joined (goal.at.returns-else-is_finite-2 c).Joined-is_finite) c.if-is_finite-2.false)
