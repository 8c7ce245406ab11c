-- Laws of writing at a cursor that stays at the end of the lent bytes.
-- Assumes nothing.
use mathlib.Core.Path.{◌≡◌, refl, sym, ap, ◌∙◌}
use mathlib.Core.Bool.{Bool, true, false}
use Prim.Native.Nat.{ℕ, ◌+◌, ◌≤◌, ◌<◌}
use native.Mathlib.Numerals.{add-one}
use native.Mathlib.Omega.{arith}
use mathlib.Core.List.{List, [], ◌∷◌, ◌++◌}
use lib.ListN.{length, get_or, set, drop}
use lib.Seq.{set_out, drop-cons}
use lib.Dec.{leb}
use borrow.Author.Tests.{leb-true, leb-false}
use Rattle.octets.specs.Bytes.{splice}
use Rattle.octets.proofs.Splice.{splice-append, length-splice, splice-one}
use Rattle.text.specs.Words.{cursor_after}

-- past the end nothing is stored
pub splice-out : (d : List ℕ) (at : ℕ) (s : List ℕ) → length d ≤ at → splice d at s ≡ d
unfolding splice
splice-out d at [] h = refl
splice-out d at (x ∷ s) h =
    ap (λ (e : List ℕ). splice e (at + 1) s) (set_out d at x h) ∙ splice-out d (at + 1) s (omega arith)

-- two writers in a row: the second at the first's cursor
pub splice-after : (d : List ℕ) (at : ℕ) (s t : List ℕ) → splice (splice d at s) (cursor_after (length d) at (length s)) t ≡ splice d at (s ++ t)
splice-after d at s t = go (leb (at + length s) (length d)) refl
  where
    go : (b : Bool) → leb (at + length s) (length d) ≡ b → splice (splice d at s) (cursor_after (length d) at (length s)) t ≡ splice d at (s ++ t)
    go true e =
        let h : at + length s ≤ length d = leb-true _ _ e in
        let k : cursor_after (length d) at (length s) ≡ at + length s = omega arith in
        ap (λ (n : ℕ). splice (splice d at s) n t) k ∙ sym (splice-append d at s t)
    go false e =
        let h : length d < at + length s = leb-false _ _ e in
        let l : length (splice d at s) ≡ length d = length-splice d at s in
        splice-out (splice d at s) (cursor_after (length d) at (length s)) t (omega arith)
        ∙ sym (splice-out (splice d at s) (at + length s) t (omega arith))
        ∙ sym (splice-append d at s t)

pub put-turn : (d : List ℕ) (to i : ℕ) (s : List ℕ) → i < length s
    → splice (set d to (get_or s i 0)) (cursor_after (length d) to 1) (drop (i + 1) s) ≡ splice d to (drop i s)
put-turn d to i s h =
    ap (λ (e : List ℕ). splice e (cursor_after (length d) to 1) (drop (i + 1) s)) (sym (splice-one d to (get_or s i 0)))
    ∙ splice-after d to (get_or s i 0 ∷ []) (drop (i + 1) s)
    ∙ ap (splice d to) (ap (λ (k : ℕ). get_or s i 0 ∷ drop k s) (add-one i) ∙ sym (drop-cons s i 0 h))

pub put_two : (d : List ℕ) (at x y : ℕ) → set (set d at x) (cursor_after (length d) at 1) y ≡ splice d at (x ∷ y ∷ [])
unfolding splice
put_two d at x y = splice-after d at (x ∷ []) (y ∷ [])
