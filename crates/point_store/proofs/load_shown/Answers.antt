-- `point_store::load_shown` meets its contract. Assumes nothing.
use Rattle.point_store.proofs.PointLaws.{shown-at}
use mathlib.Core.Path.{◌∙◌}
use Rattle.point_store.proofs.load_shown.Goals as goal

pub returns : goal.returns
returns c =
    let e = shown-at c.args.ws.now c.args.i c.requires in
    (e.0, c.value_of.ensures ∙ e.1)
