-- Laws of loops that fill an array from the front, and that read a list from the front; of counts and of repeated elements.
-- Assumes nothing.
use mathlib.Core.Path.{◌≡◌, refl, sym, ap, ◌∙◌}
use mathlib.Core.List.{List, [], ◌∷◌, ◌++◌, map, append-nil}
use Prim.Native.Nat.{ℕ, zero, suc, ◌+◌, ◌-◌, ◌≤◌, ◌<◌, min}
use native.Mathlib.Numerals.{add-one}
use native.Mathlib.Omega.{arith}
use lib.ListN.{length, take, drop, get_or, set, replicate, length-drop}
use lib.Seq.{slice-cons, slice_empty, take-suc-set, append_snoc, take_all}
use Rattle.laws.proofs.Loops.{take_min}

module _ {A : Type 0} where
  -- a turn stores the next element: what is finished and what is to come stay the whole
  pub stored : (ys : List A) (j : ℕ) (v : A) (rest whole : List A) → j < length ys → whole ≡ v ∷ rest
      → take (j + 1) (set ys j v) ++ rest ≡ take j ys ++ whole
  stored ys j v rest whole h e =
      ap (λ (r : List A). r ++ rest) (ap (λ (k : ℕ). take k (set ys j v)) (add-one j) ∙ take-suc-set ys j v h)
      ∙ append_snoc (take j ys) v rest
      ∙ ap (λ (r : List A). take j ys ++ r) (sym e)

  -- nothing is to come
  pub finished : (done rest whole : List A) → rest ≡ [] → done ++ rest ≡ whole → done ≡ whole
  finished done rest whole e h = sym (append-nil done) ∙ ap (λ (r : List A). done ++ r) (sym e) ∙ h

  -- the first of the elements from i up to n, and the others
  pub part-front : (l : List A) (n i : ℕ) (d : A) → i < n → n ≤ length l → drop i (take n l) ≡ get_or l i d ∷ drop (i + 1) (take n l)
  part-front l n i d h k = rw add-one (slice-cons i n l d h k)

  pub part_none : (l : List A) (n i : ℕ) → i ≤ n → n ≤ i → drop i (take n l) ≡ []
  part_none l n i h k =
      let e : i ≡ n = omega arith in
      ap (λ (m : ℕ). drop m (take n l)) e ∙ slice_empty n l

  -- a part up to the end
  pub to_end : (l : List A) (at : ℕ) → take (length l - at) (drop at l) ≡ drop at l
  to_end l at = take_all (length l - at) (drop at l) (simp length-drop (omega arith))

  -- a count c clamped to the m slots of an array takes what c takes
  pub clamped : (l : List A) (m c n : ℕ) → length l ≡ m → n ≡ min c m → take n l ≡ take c l
  clamped l m c n h e = ap (λ (k : ℕ). take k l) (e ∙ ap (λ (k : ℕ). min c k) (sym h)) ∙ take_min c l

  pub take-replicate : (n m : ℕ) (s : A) → n ≤ m → take n (replicate m s) ≡ replicate n s
  take-replicate zero m s h = refl
  take-replicate (suc n) zero s h = absurd (omega arith)
  take-replicate (suc n) (suc m) s h = ap (λ (r : List A). s ∷ r) (take-replicate n m s (omega arith))

pub map-take : {A B : Type 0} (f : A → B) (n : ℕ) (l : List A) → take n (map f l) ≡ map f (take n l)
map-take f zero l = refl
map-take f (suc n) [] = refl
map-take {A} {B} f (suc n) (x ∷ xs) = ap (λ (r : List B). f x ∷ r) (map-take f n xs)
