-- `analog_outputs::load_output` meets its contract. Assumes nothing.
use Rattle.analog_outputs.proofs.OutputLaws.{output-at}
use mathlib.Core.Path.{◌∙◌}
use Rattle.analog_outputs.proofs.load_output.Goals as goal

pub returns : goal.returns
returns c =
    c.output_of.ensures ∙ output-at c.args.ws.now c.args.i c.requires
