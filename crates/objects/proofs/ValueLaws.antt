-- Laws of a value's bytes.
-- Assumes nothing.
use mathlib.Core.Path.{◌≡◌, refl}
use mathlib.Core.List.{[], ◌∷◌}
use lib.IntN.{negsuc}
use lib.ListN.{length}
use Rattle.octets.specs.Bytes.{le}
use Rattle.octets.proofs.Le.{length-le}
use Rattle.points.specs.declared.Value.{Value}
use Rattle.points.specs.declared.Value.TheVariants.{Int32, Int16, Float32}
use Rattle.objects.specs.Values.{value_bytes, value_size}

pub length-value : (v : Value) → length (value_bytes v) ≡ value_size v
length-value (Int32 z) = length-le 4 _
length-value (Int16 z) = length-le 2 _
length-value (Float32 x) = length-le 4 _

-- -2 in 32 bits, -32,768 in 16
minus-two : value_bytes (Int32 (negsuc 1)) ≡ 254 ∷ 255 ∷ 255 ∷ 255 ∷ []
unfolding le
minus-two = refl

lowest : value_bytes (Int16 (negsuc 32767)) ≡ 0 ∷ 128 ∷ []
unfolding le
lowest = refl
