-- The value that a point shows (document 01, "Readings").
-- Assumes nothing.
use Rattle.std.specs.Prelude.{Bool, true, false, [], ◌∷◌, zero, suc, ℤ, pos, negsuc, Float}
use Rattle.std.specs.Int.Signed.{lt_z}
use Rattle.std.specs.Float.{nan, inf, fin, binary32}
use Rattle.std.specs.Float.Ieee.{mul, add}
use Rattle.laws.specs.First.{first, ◌⇒◌}
use Rattle.points.specs.declared.Scale.{Scale}
use Rattle.points.specs.declared.Saturated.{Saturated}

-- "Its value is reading × gain, then + offset, each rounded once."
abbrev pub scaled : Float → Float → Float → Float
scaled x g o = add binary32 (mul binary32 x g) o

-- the largest finite f32 of a sign: (2 ^ 24 - 1) * 2 ^ 104
abbrev pub largest : Bool → Float
largest s = fin s 16777215 (pos 104)

-- "An infinite value becomes the largest finite one of that sign with over-range (bit 5) set."
unfoldable pub limited_of : Float → Saturated Float
limited_of nan = record { value = nan; over = false }
limited_of (inf s) = record { value = largest s; over = true }
limited_of (fin s m e) = record { value = fin s m e; over = false }

-- the value that a float point shows for the reading x
abbrev pub scale_value : Scale → Float → Saturated Float
scale_value s x = limited_of (scaled x s.gain s.offset)

-- "A 16-bit point outside −32,768 to 32,767 shows the nearer end with over-range."
unfoldable pub clamp_value : ℤ → Saturated ℤ
clamp_value z =
    first
    (lt_z (pos 32767) z ⇒ record { value = pos 32767; over = true }
    ∷ lt_z z (negsuc 32767) ⇒ record { value = negsuc 32767; over = true }
    ∷ [])
    (record { value = z; over = false })

-- ---- for the theorem "Gain 1 and offset plus zero give back the reading's own bits, but minus zero gives plus zero."

abbrev pub one : Float
one = fin false 1 (pos 0)

abbrev pub plus_zero : Float
plus_zero = fin false 0 (pos 0)

-- minus zero becomes plus zero, and every other value is itself
unfoldable pub no_minus_zero : Float → Float
no_minus_zero nan = nan
no_minus_zero (inf s) = inf s
no_minus_zero (fin s zero e) = plus_zero
no_minus_zero (fin s (suc m) e) = fin s (suc m) e
