-- What the library's words for floats say in this crate's.
-- Assumes nothing.
use mathlib.Core.Path.{◌≡◌, refl}
use mathlib.Core.Bool.{true, false}
use lib.Dec.{T}
use lib.Ieee.{Float, nan, inf, fin, binary32, fits, lt}
use lib.Ieee.Scale.{finite}
use Rattle.std.specs.Float.{float_is_finite, float_is_infinite, float_with_sign, float_clamp}
use Rattle.points.specs.declared.Saturated.{Saturated}
use Rattle.points.specs.Scaling.{largest, limited_of}
use Rattle.points.specs.Gate.{drop_sign}
use Rattle.points.proofs.Largest.{not-above, not-below}

pub finite-is : (x : Float) → float_is_finite x ≡ finite x
unfolding float_is_finite
finite-is nan = refl
finite-is (inf s) = refl
finite-is (fin s m e) = refl

pub drop-is : (x : Float) → float_with_sign false x ≡ drop_sign x
unfolding float_with_sign drop_sign
drop-is nan = refl
drop-is (inf s) = refl
drop-is (fin s m e) = refl

pub limited-is : (x : Float) → T (fits binary32 x)
    → ◌≡◌ {A = Saturated Float} (record { value = float_clamp x (largest true) (largest false); over = float_is_infinite x }) (limited_of x)
unfolding lt float_is_infinite limited_of
limited-is nan t = refl
limited-is (inf true) t = refl
limited-is (inf false) t = refl
limited-is (fin s m e) t = rw (not-below s m e t, not-above s m e t) refl
