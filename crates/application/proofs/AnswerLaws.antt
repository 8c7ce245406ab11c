-- The header of an answer is written after its objects: the two together are the answer.
-- Assumes nothing.
use mathlib.Core.Path.{◌≡◌, refl, sym, ap, ◌∙◌}
use mathlib.Core.List.{List, [], ◌∷◌, ◌++◌}
use Prim.Native.Nat.{ℕ, suc, ◌+◌, ◌≤◌}
use native.Mathlib.Omega.{arith}
use lib.ListN.{length, set}
use lib.Seq.{set_comm}
use Rattle.octets.specs.Bytes.{splice}
use Rattle.octets.proofs.Splice.{splice-append}

-- a store past the bytes of a splice
set_past : (d : List ℕ) (from : ℕ) (s : List ℕ) (at x : ℕ) → from + length s ≤ at → splice (set d at x) from s ≡ set (splice d from s) at x
unfolding splice
set_past d from [] at x h = refl
set_past d from (y ∷ s) at x h =
    ap (λ (e : List ℕ). splice e (from + 1) s) (set_comm d at from x y (apart from (length s) at h))
    ∙ set_past (set d from y) (from + 1) s at x (omega arith) where
      apart : (i n j : ℕ) → i + suc n ≤ j → j ≡ i → ⊥
      apart i n j p q = omega arith

-- two splices, the second before the first
pub splice-swap : (d : List ℕ) (from : ℕ) (s : List ℕ) (at : ℕ) (t : List ℕ) → from + length s ≤ at → splice (splice d at t) from s ≡ splice (splice d from s) at t
unfolding splice
splice-swap d from s at [] h = refl
splice-swap d from s at (x ∷ t) h =
    splice-swap (set d at x) from s (at + 1) t (omega arith)
    ∙ ap (λ (e : List ℕ). splice e (at + 1) t) (set_past d from s at x h)

pub answer-whole : (d header objects : List ℕ) → length header ≡ 4 → splice (splice d 4 objects) 0 header ≡ splice d 0 (header ++ objects)
answer-whole d header objects h =
    splice-swap d 0 header 4 objects (omega arith)
    ∙ ap (λ (k : ℕ). splice (splice d 0 header) k objects) (let e : 4 ≡ 0 + length header = omega arith in e)
    ∙ sym (splice-append d 0 header objects)
