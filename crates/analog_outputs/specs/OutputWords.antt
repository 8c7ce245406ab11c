-- The analog outputs in lent words: what an output's words stand for. Any words stand for some output.
-- Assumes nothing.
use Rattle.std.specs.Prelude.{ℕ, List, [], ◌∷◌, eqb, pos, get_or}
use Rattle.std.specs.Float.{binary32}
use Rattle.std.specs.Float.Ieee.{of_bits}
use Rattle.std.specs.Int.{w32}
use Rattle.std.proofs.Common.{to_z}
use Rattle.laws.specs.First.{first, ◌⇒◌}
use Rattle.words.specs.Records.{records}
use Rattle.analog_outputs.specs.declared.AnalogOutput.{AnalogOutput}
use Rattle.analog_outputs.specs.declared.AnalogOutput.TheVariants.{Int32, Int16, Float32}
use Rattle.analog_outputs.specs.declared.AnalogOutputWords.{AnalogOutputWords}
use Rattle.analog_outputs.specs.Output.{analog_outputs_max}

-- kind 0: 32-bit; 1: 16-bit; any other: float
abbrev pub output_of : (kind low high : ℕ) → AnalogOutput
output_of kind low high =
    first
    (eqb kind 0 ⇒ Int32 (to_z w32 low) (to_z w32 high)
    ∷ eqb kind 1 ⇒ Int16 (to_z w32 low) (to_z w32 high)
    ∷ [])
    (Float32 (of_bits binary32 low) (of_bits binary32 high))

-- as a setup gives it
abbrev pub output_given : AnalogOutputWords → AnalogOutput
output_given w = output_of w.kind w.low w.high

-- three words: the kind and the two ends
abbrev pub output_in : List ℕ → AnalogOutput
output_in c = output_of (get_or c 0 0) (get_or c 1 0) (get_or c 2 0)

-- the outputs that lent words stand for, installed or not
unfoldable pub outputs_in : List ℕ → List AnalogOutput
outputs_in = records 3 output_in analog_outputs_max

-- what a read past the end of the outputs counts as
abbrev pub no_output : AnalogOutput
no_output = Int32 (pos 0) (pos 0)
