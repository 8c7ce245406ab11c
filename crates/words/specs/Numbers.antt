-- Truths in words. A signed number's word is its two's complement, `to_z w32`; a float's its bits, `of_bits binary32`.
-- Assumes nothing.
use Rattle.std.specs.Prelude.{ℕ, Bool, not, eqb}

-- any number but 0 is true
abbrev pub holds : ℕ → Bool
holds n = not (eqb n 0)
