-- `analog_outputs::store_output` meets its contract. Assumes nothing.
use borrow.Author.Rules.{rules}
use Rattle.analog_outputs.proofs.OutputLaws.{output-put}
use Rattle.analog_outputs.proofs.store_output.Goals as goal

pub returns : goal.returns
returns c =
    rw c.from.ensures (output-put c.args.ws.now c.args.i c.requires c.args.w.kind c.args.w.low c.args.w.high (search rules))
