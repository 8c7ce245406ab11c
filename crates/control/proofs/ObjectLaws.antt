-- Laws of the object bytes: the form of the one header, and a loop that takes the objects one by one.
-- Assumes nothing.
use mathlib.Core.Path.{◌≡◌, refl, sym, ap, ap₂, ◌∙◌}
use mathlib.Core.List.{List, [], ◌∷◌}
use Prim.Native.Nat.{ℕ, zero, suc, ◌+◌, ◌-◌, ◌*◌, ◌^◌, ◌≤◌, ◌<◌}
use native.Mathlib.Nat.{pow-le-pow_right, zero-lt-suc, mul-zero, mul-suc}
use native.Mathlib.Numerals.{add-one}
use native.Mathlib.Omega.{arith}
use lib.ListN.{length, get_or, drop}
use lib.Seq.{drop-drop, length-take-le}
use Rattle.control.specs.declared.ObjectKind.{ObjectKind}
use Rattle.control.specs.declared.ObjectKind.TheVariants as K
use Rattle.control.specs.declared.ControlObject.{ControlObject}
use Rattle.control.specs.declared.ControlObjects.{ControlObjects}
use Rattle.control.specs.Objects.{objects_max, value_size, span, object_at, objects, list_of, Holding, no_object, earlier_of}

-- ---- the bytes of n objects, w of an index and z of a value each

pub value-most : (k : ObjectKind) → value_size k ≤ 10
value-most K.Crob = omega arith
value-most K.Int32 = omega arith
value-most K.Int16 = omega arith
value-most K.Float32 = omega arith

module _ (w z : ℕ) where
  pub span-times : (n : ℕ) → span w z n ≡ (w + z + 1) * n
  unfolding span
  span-times zero = sym (mul-zero (w + z + 1))
  span-times (suc n) =
      let e : (w + z + 1) * suc n ≡ (w + z + 1) * n + (w + z + 1) = mul-suc (w + z + 1) n in
      let f : span w z n ≡ (w + z + 1) * n = span-times n in
      omega (arith, e, f)

  pub span-most : w ≤ 2 → z ≤ 10 → (n : ℕ) → span w z n ≤ 13 * n
  unfolding span
  span-most h k zero = omega arith
  span-most h k (suc n) = let e : span w z n ≤ 13 * n = span-most h k n in omega arith

  span_more : (n : ℕ) → 0 < n → span w z n ≡ w + z + 1 + span w z (n - 1)
  unfolding span
  span_more zero h = absurd (omega arith)
  span_more (suc n) h =
      let e : n ≡ suc n - 1 = omega arith in
      ap (λ (k : ℕ). w + z + 1 + span w z k) e

  -- n - i objects, i of n being done
  pub span-step : (n i : ℕ) → i < n → span w z (n - i) ≡ w + z + 1 + span w z (n - (i + 1))
  span-step n i h =
      let e : n - i - 1 ≡ n - (i + 1) = omega arith in
      span_more (n - i) (omega arith) ∙ ap (λ (k : ℕ). w + z + 1 + span w z k) e

-- ---- the objects one by one

module _ (j : ObjectKind) (w : ℕ) where
  objects-more : (n : ℕ) (b : List ℕ) → 0 < n → objects j w n b ≡ object_at j w b ∷ objects j w (n - 1) (drop (w + value_size j + 1) b)
  unfolding objects
  objects-more zero b h = absurd (omega arith)
  objects-more (suc n) b h =
      let e : n ≡ suc n - 1 = omega arith in
      ap (λ (k : ℕ). object_at j w b ∷ objects j w k (drop (w + value_size j + 1) b)) e

  pub objects-none : (n : ℕ) (b : List ℕ) → n ≤ 0 → objects j w n b ≡ []
  unfolding objects
  objects-none zero b h = refl
  objects-none (suc n) b h = absurd (omega arith)

  pub objects-step : (n i at : ℕ) (b : List ℕ) → i < n
      → objects j w (n - i) (drop at b) ≡ object_at j w (drop at b) ∷ objects j w (n - (i + 1)) (drop (at + (w + value_size j + 1)) b)
  objects-step n i at b h =
      let e : n - i - 1 ≡ n - (i + 1) = omega arith in
      objects-more (n - i) (drop at b) (omega arith)
      ∙ ap₂ (λ (k : ℕ) (l : List ℕ). object_at j w (drop at b) ∷ objects j w k l) e (drop-drop (w + value_size j + 1) at b)

  pub objects-length : (n : ℕ) (b : List ℕ) → length (objects j w n b) ≡ n
  unfolding objects
  objects-length zero b = refl
  objects-length (suc n) b = ap suc (objects-length n (drop (w + value_size j + 1) b))

-- a count within the array is the number of objects
pub length-list_of : (c : ControlObjects) → length c.items ≡ objects_max → c.count ≤ objects_max → length (list_of c) ≡ c.count
unfolding list_of
length-list_of c h k = length-take-le c.count c.items (omega arith)

pub holding : (c : ControlObjects) (xs : List ControlObject) → length c.items ≡ objects_max → c.count ≤ objects_max → list_of c ≡ xs → Holding c xs
holding c xs h k e = record { objects = e; count = sym (length-list_of c h k) ∙ ap length e }

-- ---- the indices of the objects before

pub earlier-next : (cs : List ControlObject) (i : ℕ) → earlier_of cs (i + 1) ≡ (get_or cs i no_object).index ∷ earlier_of cs i
unfolding earlier_of
earlier-next cs i = ap (λ (k : ℕ). earlier_of cs k) (add-one i)

pub narrow : (w x : ℕ) → w ≤ 2 → x < 256 ^ w → x < 65536
narrow w x h k =
    let p : 256 ^ w ≤ 256 ^ 2 = pow-le-pow_right (zero-lt-suc 255) h in
    omega arith
