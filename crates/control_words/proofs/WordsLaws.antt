-- Laws of a loop that takes the objects that pass a test, one by one, into an array of numbers that stand for them.
-- Assumes nothing.
use mathlib.Core.Path.{◌≡◌, refl, sym, ap, ◌∙◌}
use mathlib.Core.Bool.{Bool, true, false}
use mathlib.Core.List.{List, [], ◌∷◌, ◌++◌, map}
use Prim.Native.Nat.{ℕ, zero, suc, ◌+◌, ◌≤◌, ◌<◌}
use lib.ListN.{length, get_or, take, drop, set, length-map, drop_of_length-le}
use lib.Seq.{length-take-le}
use Rattle.laws.specs.Lists.{filter}
use Rattle.std.proofs.Common.{add-one, drop-cons}
use Rattle.std.proofs.Math.Option.{some}
use Rattle.laws.proofs.Filling.{stored, map-take}
use Rattle.control.specs.declared.ControlObject.{ControlObject}

module _ (p : ControlObject → Bool) (xs : List ControlObject) (i : ℕ) where
  module _ (d : ControlObject) (below : i < length xs) where
    front : drop i xs ≡ get_or xs i d ∷ drop (i + 1) xs
    front = rw (add-one, drop-cons xs i d) refl

    pub filter-yes : p (get_or xs i d) ≡ true → filter p (drop i xs) ≡ get_or xs i d ∷ filter p (drop (i + 1) xs)
    unfolding filter
    filter-yes e = rw (front, e)

    pub filter-no : p (get_or xs i d) ≡ false → filter p (drop (i + 1) xs) ≡ filter p (drop i xs)
    unfolding filter
    filter-no e = rw (front, e)

  pub filter-end : length xs ≤ i → filter p (drop i xs) ≡ []
  unfolding filter
  filter-end h = rw (drop_of_length-le xs h) refl

-- objects that all are some
pub map-some : {W : Type 0} (f : W → ControlObject) (ws : List W) (xs : List ControlObject) → map (λ w. some (f w)) ws ≡ map some xs → map f ws ≡ xs
map-some f [] [] e = refl
map-some f [] (x ∷ xs) e = cc
map-some f (w ∷ ws) [] e = cc
map-some f (w ∷ ws) (x ∷ xs) e = let t : map f ws ≡ xs = map-some f ws xs cc in cc

module _ {W X : Type 0} (f : W → X) where
  map-set : (ws : List W) (j : ℕ) (w : W) → map f (set ws j w) ≡ set (map f ws) j (f w)
  map-set [] j w = refl
  map-set (x ∷ ws) zero w = refl
  map-set (x ∷ ws) (suc j) w = ap (λ (l : List X). f x ∷ l) (map-set ws j w)

  -- a turn stores what stands for the front one
  pub taken_more : (ws : List W) (j : ℕ) (w : W) (x : X) (rest whole : List X) → j < length ws → f w ≡ x → whole ≡ x ∷ rest
      → take (j + 1) (map f (set ws j w)) ++ rest ≡ take j (map f ws) ++ whole
  taken_more ws j w x rest whole h e g =
      ap (λ (l : List X). take (j + 1) l ++ rest) (map-set ws j w ∙ ap (set (map f ws) j) e)
      ∙ stored (map f ws) j x rest whole (rw (length-map ws f) h) g

  pub taken-length : (ws : List W) (j : ℕ) → j ≤ length ws → j ≡ length (map f (take j ws))
  taken-length ws j h = sym (length-map (take j ws) f ∙ length-take-le j ws h)

  -- so many as the objects that they stand for
  pub taken-count : (ws : List W) (j : ℕ) (g : ControlObject → X) (xs : List ControlObject) → j ≤ length ws → map f (take j ws) ≡ map g xs → j ≡ length xs
  taken-count ws j g xs h e = taken-length ws j h ∙ ap length e ∙ length-map xs g

  pub taken-map : (ws : List W) (j : ℕ) → map f (take j ws) ≡ take j (map f ws)
  taken-map ws j = sym (map-take f j ws)
