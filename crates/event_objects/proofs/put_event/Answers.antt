-- `event_objects::put_event` meets its contract.
-- Assumes nothing.
use mathlib.Core.Path.{◌∙◌}
use native.Mathlib.Omega.{arith}
use lib.ListN.{length-set}
use Rattle.event_objects.proofs.EventLaws.{length-least, length-state, length-analog, state-put, analog-put}
use Rattle.event_objects.proofs.put_event.Goals as goal

pub put2-requires : goal.put2-requires
put2-requires c = omega (arith, length-least c.args.e)

pub bounds-out-at : goal.bounds-out-at
bounds-out-at c = omega (arith, length-least c.args.e, c.put2.auto.b)

pub put-requires : goal.put-requires
put-requires c = simp length-set (omega (arith, length-least c.args.e, c.put2.auto.b))

pub bounds-out-at-in-Analog : goal.bounds-out-at-in-Analog
bounds-out-at-in-Analog c = omega (arith, length-least c.args.e, c.put2.auto.b)

pub put_value-to-requires : goal.put_value-to-requires
put_value-to-requires c = simp length-set (omega (arith, length-analog c.args.e _ c.in-Analog.is, c.put2.auto.b))

pub put-requires-in-Analog : goal.put-requires-in-Analog
put-requires-in-Analog c = omega (arith, length-analog c.args.e _ c.in-Analog.is, c.put2.auto.b, c.put_value-to.ensures.0, simp length-set at c.put_value-to.auto.out)

pub overflow_add-result-in-Analog : goal.overflow_add-result-in-Analog
overflow_add-result-in-Analog c = omega (arith, length-analog c.args.e _ c.in-Analog.is, c.put_value-to.ensures.0)

pub shape_of-out-in-State : goal.shape_of-out-in-State
shape_of-out-in-State c = c.put.auto.b ∙ simp length-set c.put2.auto.b

pub returns-in-State : goal.returns-in-State
returns-in-State c =
    let a = c.args in (
      omega (arith, length-state a.e _ c.in-State.is),
      state-put a.e _ _ _ _ _ _ c.in-State.is c.state_byte.ensures c.put2.ensures c.put.ensures,
    )

pub shape_of-out-in-Analog : goal.shape_of-out-in-Analog
shape_of-out-in-Analog c = c.put-in-Analog.auto.b ∙ c.put_value-to.auto.out ∙ simp length-set c.put2.auto.b

pub returns-in-Analog : goal.returns-in-Analog
returns-in-Analog c =
    let a = c.args in (
      omega (arith, length-analog a.e _ c.in-Analog.is, c.put_value-to.ensures.0),
      analog-put a.e _ _ _ _ _ _ _ c.in-Analog.is c.put_value-to.ensures.0 c.put2.ensures c.put_value-to.ensures.1 c.put-in-Analog.ensures,
    )
