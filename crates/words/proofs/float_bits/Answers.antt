-- `words::float_bits` meets its contract. Assumes nothing.
use lib.Ieee.{binary32}
use lib.Ieee.Bits.{of_bits-to_bits}
use borrow.Author.Rules.{rules}
use mathlib.Core.Path.{refl, sym, ◌∙◌}
use Rattle.words.proofs.NumberLaws.{nan-bits, bits-nan}
use Rattle.words.proofs.float_bits.Goals as goal

pub returns-then-is_nan : goal.returns-then-is_nan
returns-then-is_nan c = let e = sym c.is_nan.ensures.value ∙ c.if-is_nan.true in (nan-bits c.args.x e, bits-nan c.args.x e)

pub returns-else-is_nan : goal.returns-else-is_nan
returns-else-is_nan c = (of_bits-to_bits binary32 c.args.x (search rules), refl)
