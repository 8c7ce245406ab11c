-- `point_store::load_analog` meets its contract. Assumes nothing.
use Rattle.point_store.proofs.PointLaws.{analog-at}
use mathlib.Core.Path.{◌∙◌}
use Rattle.point_store.proofs.load_analog.Goals as goal

pub returns : goal.returns
returns c =
    c.analog_of.ensures ∙ analog-at c.args.ws.now c.args.i c.requires
