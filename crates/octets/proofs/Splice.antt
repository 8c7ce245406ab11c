-- Laws of `splice`: bytes stored one after the other from an offset.
-- Assumes nothing.
use mathlib.Core.Path.{◌≡◌, refl, sym, ap, ap₂, ◌∙◌}
use Prim.Native.Nat.{ℕ, suc, ◌+◌, ◌≤◌, ◌<◌}
use native.Mathlib.Nat.{add-zero, add_assoc}
use native.Mathlib.Numerals.{add-one}
use native.Mathlib.Omega.{arith}
use mathlib.Core.List.{List, [], ◌∷◌, ◌++◌, append_assoc}
use lib.ListN.{length, get_or, take, drop, set, length-set, length-drop, take-append-drop, drop_of_length-le}
use lib.Seq.{sets, sets-eq, take_at, drop_at, length-take-le, take-add, drop-cons}
use Rattle.octets.specs.Bytes.{splice}

pub splice-nil : (d : List ℕ) (at : ℕ) → splice d at [] ≡ d
unfolding splice
splice-nil d at = refl

-- one byte more to store: what a turn of a writer's loop does
pub splice-cons : (d : List ℕ) (at x : ℕ) (s : List ℕ) → splice d at (x ∷ s) ≡ splice (set d at x) (at + 1) s
unfolding splice
splice-cons d at x s = refl

pub splice-one : (d : List ℕ) (at x : ℕ) → splice d at (x ∷ []) ≡ set d at x
unfolding splice
splice-one d at x = refl

-- two splices next to each other
pub splice-append : (d : List ℕ) (at : ℕ) (s t : List ℕ) → splice d at (s ++ t) ≡ splice (splice d at s) (at + length s) t
unfolding splice
splice-append d at [] t = ap (λ (k : ℕ). splice d k t) (sym (add-zero at))
splice-append d at (x ∷ s) t =
    splice-append (set d at x) (at + 1) s t
    ∙ ap (λ (k : ℕ). splice (splice (set d at x) (at + 1) s) k t) (omega arith)

pub length-splice : (d : List ℕ) (at : ℕ) (s : List ℕ) → length (splice d at s) ≡ length d
unfolding splice
length-splice d at [] = refl
length-splice d at (x ∷ s) = length-splice (set d at x) (at + 1) s ∙ length-set d at x

splice-sets : (d : List ℕ) (at : ℕ) (s : List ℕ) → splice d at s ≡ sets d at s
unfolding splice
splice-sets d at [] = refl
splice-sets d at (x ∷ s) = ap (λ (k : ℕ). splice (set d at x) k s) (add-one at) ∙ splice-sets (set d at x) (suc at) s

module _ (d : List ℕ) (at : ℕ) (s : List ℕ) (room : at + length s ≤ length d) where
  -- the bytes before, the bytes stored, the bytes after
  pub splice-parts : splice d at s ≡ take at d ++ s ++ drop (at + length s) d
  splice-parts = splice-sets d at s ∙ sets-eq s d at room

  pub drop-splice : drop at (splice d at s) ≡ s ++ drop (at + length s) d
  drop-splice = ap (drop at) (splice-parts ∙ append_assoc (take at d) s _) ∙ drop_at (take at d) _ at (length-take-le at d (omega arith))

  -- what was stored is there
  pub stored-splice : take (length s) (drop at (splice d at s)) ≡ s
  stored-splice = ap (take (length s)) drop-splice ∙ take_at s _ (length s) refl

-- what stands there already may be stored again
pub splice-same : (d : List ℕ) (at n : ℕ) → at + n ≤ length d → splice d at (take n (drop at d)) ≡ d
splice-same d at n room =
    let l : length (take n (drop at d)) ≡ n = length-take-le n (drop at d) (simp length-drop (omega arith)) in
    splice-parts d at (take n (drop at d)) (rw l room)
    ∙ ap (λ (k : ℕ). take at d ++ take n (drop at d) ++ drop (at + k) d) l
    ∙ ap (λ (x : List ℕ). x ++ drop (at + n) d) (sym (take-add at n d))
    ∙ take-append-drop (at + n) d

-- ---- a loop that copies s from the offset, i the index of the next byte: where it begins, a turn, where it ends

pub splice-start : (d : List ℕ) (at : ℕ) (s : List ℕ) → splice d (at + 0) (drop 0 s) ≡ splice d at s
splice-start d at s = ap (λ (k : ℕ). splice d k s) (add-zero at)

pub splice-turn : (d : List ℕ) (at i : ℕ) (s : List ℕ) → i < length s
    → splice (set d (at + i) (get_or s i 0)) (at + (i + 1)) (drop (i + 1) s) ≡ splice d (at + i) (drop i s)
splice-turn d at i s h =
    ap₂ (λ (k : ℕ) (l : List ℕ). splice (set d (at + i) (get_or s i 0)) k l) (sym (add_assoc at i 1)) (ap (λ (k : ℕ). drop k s) (add-one i))
    ∙ sym (splice-cons d (at + i) (get_or s i 0) (drop (suc i) s))
    ∙ ap (splice d (at + i)) (sym (drop-cons s i 0 h))

pub splice-end : (d : List ℕ) (at i : ℕ) (s : List ℕ) → length s ≤ i → splice d at (drop i s) ≡ d
splice-end d at i s h = ap (splice d at) (drop_of_length-le s h) ∙ splice-nil d at
