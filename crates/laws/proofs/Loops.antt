-- Laws of a loop that goes once over the first n slots of an array and rewrites it in place.
-- The invariant is one equation: what is finished, followed by what the specification G makes of the slots still to come,
-- is what G makes of all of them: `take j ys ++ G (slice i n ys) ≡ G (take n xs)`.
use mathlib.Core.Path.{◌≡◌, refl, sym, ap, ◌∙◌}
use mathlib.Core.Bool.{Bool, true, false}
use mathlib.Core.List.{List, [], ◌∷◌, ◌++◌, map, append-nil}
use Prim.Native.Nat.{ℕ, zero, suc, ◌+◌, ◌≤◌, ◌<◌, min}
use native.Mathlib.Nat.{le_of_suc-le-suc, not-suc-le-zero, suc-min-suc, zero-min, min-zero}
use native.Mathlib.Numerals.{add-one}
use native.Mathlib.Omega.{arith}
use lib.ListN.{length, take, get_or, set, length-map, take-append-drop}
use Rattle.laws.specs.Lists.{filter}
use lib.Seq.{slice, slice-cons, slice_empty, take-suc, take-suc-set, take-take, get_or-take, append_snoc}

-- ---- a filter's head
pub filter-nil : {A : Type 0} (p : A → Bool) → filter p [] ≡ []
unfolding filter
filter-nil p = refl

module _ {A : Type 0} (p : A → Bool) (x : A) (xs : List A) where
  pub filter-yes : p x ≡ true → filter p (x ∷ xs) ≡ x ∷ filter p xs
  unfolding filter
  filter-yes h = rw h

  pub filter-no : p x ≡ false → filter p (x ∷ xs) ≡ filter p xs
  unfolding filter
  filter-no h = rw h

-- what owning a struct tells of a field that is an array of structs: `search (length-mapped, needs)` finds its length
pub length-mapped : (X Y : Type 0) (f : X → Y) (l : List X) (n : ℕ) → length (map f l) ≡ n → length l ≡ n
length-mapped X Y f l n p = sym (length-map l f) ∙ p

module _ {A : Type 0} where
  -- a count past the end of the array counts the whole array
  pub take_min : (c : ℕ) (l : List A) → take (min c (length l)) l ≡ take c l
  take_min zero l = ap (λ (k : ℕ). take k l) (zero-min (length l))
  take_min (suc c) [] = ap (λ (k : ℕ). take {A = A} k []) (min-zero (suc c))
  take_min (suc c) (x ∷ xs) =
      ap (λ (k : ℕ). take k (x ∷ xs)) (suc-min-suc c (length xs)) ∙ ap (λ (r : List A). x ∷ r) (take_min c xs)

  -- an element in use: the array's, and the list's, whatever stands for a place past the end
  pub get_d_any : (l : List A) (i : ℕ) (d e : A) → i < length l → get_or l i d ≡ get_or l i e
  get_d_any [] i d e h = absurd (not-suc-le-zero h)
  get_d_any (x ∷ xs) zero d e h = refl
  get_d_any (x ∷ xs) (suc i) d e h = get_d_any xs i d e (le_of_suc-le-suc h)

  pub get_d-in-use : (l : List A) (n i : ℕ) (d e : A) → i < n → i < length l → get_or l i d ≡ get_or (take n l) i e
  get_d-in-use l n i d e h k = get_d_any l i d e k ∙ sym (get_or-take n l i e h)

  -- a store before the part leaves the part
  pub slice-put : (f t : ℕ) (l : List A) (j : ℕ) (v : A) → j < f → slice f t (set l j v) ≡ slice f t l
  slice-put zero t l j v h = absurd (not-suc-le-zero h)
  slice-put (suc f) zero l j v h = refl
  slice-put (suc f) (suc t) [] j v h = refl
  slice-put (suc f) (suc t) (x ∷ xs) zero v h = refl
  slice-put (suc f) (suc t) (x ∷ xs) (suc j) v h = slice-put f t xs j v (le_of_suc-le-suc h)

  module _ (G H : List A → List A) (n i j : ℕ) (ys : List A) (d : A) (below : i < n) (fits : n ≤ length ys) where
    pub slice_front : slice i n ys ≡ get_or ys i d ∷ slice (i + 1) n ys
    slice_front = rw add-one (slice-cons i n ys d below fits)

    -- the turn stores v at j, at or before the slot that it read
    pub slice-after-store : (v : A) → j ≤ i → G (get_or ys i d ∷ slice (i + 1) n ys) ≡ v ∷ H (slice (i + 1) n ys)
        → take (j + 1) (set ys j v) ++ H (slice (i + 1) n (set ys j v)) ≡ take j ys ++ G (slice i n ys)
    slice-after-store v h e =
        ap (λ (r : List A). take (j + 1) (set ys j v) ++ H r) (slice-put (i + 1) n ys j v (omega arith))
        ∙ ap (λ (r : List A). r ++ H (slice (i + 1) n ys)) (ap (λ (k : ℕ). take k (set ys j v)) (add-one j) ∙ take-suc-set ys j v (omega arith))
        ∙ append_snoc (take j ys) v (H (slice (i + 1) n ys))
        ∙ ap (λ (r : List A). take j ys ++ r) (sym e ∙ ap G (sym slice_front))

    -- the turn passes its slot over
    pub slice-after-skip : G (get_or ys i d ∷ slice (i + 1) n ys) ≡ H (slice (i + 1) n ys) → take j ys ++ H (slice (i + 1) n ys) ≡ take j ys ++ G (slice i n ys)
    slice-after-skip e = ap (λ (r : List A). take j ys ++ r) (sym e ∙ ap G (sym slice_front))

    -- the turn leaves its slot as it is, and it counts as finished
    pub slice-after-keep : G (get_or ys i d ∷ slice (i + 1) n ys) ≡ get_or ys i d ∷ H (slice (i + 1) n ys)
        → take (i + 1) ys ++ H (slice (i + 1) n ys) ≡ take i ys ++ G (slice i n ys)
    slice-after-keep e =
        ap (λ (r : List A). r ++ H (slice (i + 1) n ys)) (ap (λ (k : ℕ). take k ys) (add-one i) ∙ take-suc ys i d (omega arith))
        ∙ append_snoc (take i ys) (get_or ys i d) (H (slice (i + 1) n ys))
        ∙ ap (λ (r : List A). take i ys ++ r) (sym e ∙ ap G (sym slice_front))

  -- the part before, and the part
  pub take-slice : (n i : ℕ) (l : List A) → i ≤ n → take i l ++ slice i n l ≡ take n l
  take-slice n i l h = ap (λ (r : List A). r ++ slice i n l) (sym (take-take i n l h)) ∙ take-append-drop i (take n l)

  -- nothing is to come
  pub slice-at-end : (G : List A → List A) (n i j : ℕ) (ys : List A) → i ≤ n → n ≤ i → G [] ≡ [] → take j ys ++ G (slice i n ys) ≡ take j ys
  slice-at-end G n i j ys h k e =
      ap (λ (m : ℕ). take j ys ++ G (slice m n ys)) (let q : i ≡ n = omega arith in q)
      ∙ ap (λ (r : List A). take j ys ++ r) (ap G (slice_empty n ys) ∙ e)
      ∙ append-nil (take j ys)
