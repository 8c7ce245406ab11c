-- `point_store::store_analog` meets its contract. Assumes nothing.
use Rattle.point_store.proofs.PointLaws.{analog-put}
use Rattle.point_store.specs.PointWords.{analogs_in}
use lib.ListN.{set}
use mathlib.Core.Path.{ap, ◌∙◌}
use borrow.Author.Rules.{rules}
use Rattle.point_store.proofs.store_analog.Goals as goal

pub returns : goal.returns
returns c =
    analog-put c.args.ws.now c.args.i c.requires c.analog_words-w.result (search rules)
    ∙ ap (set (analogs_in c.args.ws.now) c.args.i) c.analog_words-w.ensures
