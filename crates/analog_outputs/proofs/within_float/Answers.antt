-- `analog_outputs::within_float` meets its contract. Assumes nothing.
use mathlib.Core.Path.{◌≡◌, sym, ◌∙◌}
use mathlib.Core.Bool.{◌&&◌}
use lib.Ieee.{le}
use lib.Ieee.Scale.{finite}
use Rattle.analog_outputs.specs.Output.{within_float}
use Rattle.points.proofs.StdLaws.{finite-is}
use Rattle.analog_outputs.proofs.OutputLaws.{all_pass, one-fails}
use Rattle.analog_outputs.proofs.within_float.Goals as goal
use Rattle.analog_outputs.proofs.within_float.Goals.{Joined-is_finite, then-is_finite, else-is_finite}

-- the first two of the three tests, which `&&` asks in turn
joined : (c : Joined-is_finite) → c.if-is_finite.value ≡ (finite c.args.v && le c.args.low c.args.v)
joined c =
    let told : finite c.args.v ≡ c.is_finite.result = sym (c.is_finite.ensures.value ∙ finite-is c.args.v) in
    elim c.if-is_finite.branch [
      | then-is_finite w ↦ rw (told ∙ w.if-is_finite.true) w.value-is
      | else-is_finite w ↦ rw (told ∙ w.if-is_finite.false) (w.value-is ∙ w.if-is_finite.false)
    ]

pub returns-then-low-v : goal.returns-then-low-v
unfolding within_float
returns-then-low-v c =
    let a = c.args in
    all_pass (finite a.v) (le a.low a.v) (le a.v a.high) (joined (goal.at.returns-then-low-v c).Joined-is_finite) c.if-low-v.true

pub returns-else-low-v : goal.returns-else-low-v
unfolding within_float
returns-else-low-v c =
    let a = c.args in
    one-fails (finite a.v) (le a.low a.v) (le a.v a.high) (joined (goal.at.returns-else-low-v c).Joined-is_finite) c.if-low-v.false
