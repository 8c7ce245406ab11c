-- `point_store::store_binary` meets its contract. Assumes nothing.
use Rattle.point_store.specs.PointWords.{binaries_in}
use Rattle.point_store.proofs.PointLaws.{binary-put}
use lib.ListN.{set}
use mathlib.Core.Path.{ap, ◌∙◌}
use borrow.Author.Rules.{rules}
use Rattle.point_store.proofs.store_binary.Goals as goal

pub returns : goal.returns
returns c =
    binary-put c.args.ws.now _ c.requires _ (search rules) ∙ ap (set (binaries_in c.args.ws.now) c.args.i) c.binary_word.ensures
