-- Laws of the table: its rule by one test over the whole of it; a byte by the two numbers of its halves.
-- Assumes nothing.
use mathlib.Core.Path.{◌≡◌, sym, ap, ap₂, ◌∙◌}
use mathlib.Core.Bool.{Bool, true, ◌&&◌}
use mathlib.Core.List.{List, [], ◌∷◌}
use Prim.Native.Nat.{ℕ, zero, suc, ◌+◌, ◌-◌, ◌*◌, ◌/◌, ◌%◌, ◌<◌}
use native.Mathlib.Nat.{add-zero, zero-add, add-suc, suc-add, le_of_suc-le-suc, not-suc-le-zero}
use native.Mathlib.Omega.{arith}
use lib.Dec.{T, eqb, eqb→eq}
use lib.Ieee.Fits.{and_l, and_r}
use lib.Bits.{bit_xor}
use lib.ListN.{length, get_or}
use Rattle.crc.specs.Check.{shifts}
use Rattle.crc.specs.Table.{entry_of, IsTable}
use Rattle.crc.proofs.Laws.{shifts-split}

-- ---- the rule

-- the test: these are the table's numbers from the one at j on
unfoldable pub entries_from : ℕ → List ℕ → Bool
entries_from j [] = true
entries_from j (x ∷ xs) = eqb x (entry_of j) && entries_from (suc j) xs

entry_at : (j : ℕ) (xs : List ℕ) → T (entries_from j xs) → (k : ℕ) → k < length xs → get_or xs k 0 ≡ entry_of (j + k)
unfolding entries_from
entry_at j [] passed k h = absurd (not-suc-le-zero h)
entry_at j (x ∷ xs) passed zero h = eqb→eq x (entry_of j) (and_l (eqb x (entry_of j)) (entries_from (suc j) xs) passed) ∙ ap entry_of (sym (add-zero j))
entry_at j (x ∷ xs) passed (suc k) h =
    entry_at (suc j) xs (and_r (eqb x (entry_of j)) (entries_from (suc j) xs) passed) k (le_of_suc-le-suc h)
    ∙ ap entry_of (suc-add j k ∙ sym (add-suc j k))

-- 256 numbers that pass the test are the table
pub table-by-test : (t : List ℕ) → length t ≡ 256 → T (entries_from 0 t) → IsTable t
unfolding IsTable
table-by-test t all passed j h = entry_at 0 t passed j (omega arith) ∙ ap entry_of (zero-add j)

-- ---- a byte

half-shifted : (t : List ℕ) → IsTable t → (row n : ℕ) → row < 16 → n < 16 → get_or t (16 * row + n) 0 ≡ shifts (64 - 4 * row) n
unfolding IsTable entry_of
half-shifted t table row n early small =
    let a : (16 * row + n) / 16 ≡ row = omega arith in
    let b : (16 * row + n) % 16 ≡ n = omega arith in
    table (16 * row + n) (omega arith) ∙ ap₂ (λ (x y : ℕ). shifts (64 - 4 * x) y) a b

pub byte-shifted : (t : List ℕ) → IsTable t → (place b : ℕ) → place < 8 → b < 256
    → bit_xor (get_or t (32 * place + b % 16) 0) (get_or t (32 * place + 16 + b / 16) 0) ≡ shifts (64 - 8 * place) b
byte-shifted t table place b early small =
    let m : ℕ = 60 - 8 * place in
    let at₀ : 32 * place + b % 16 ≡ 16 * (2 * place) + b % 16 = omega arith in
    let at₁ : 32 * place + 16 + b / 16 ≡ 16 * (2 * place + 1) + b / 16 = omega arith in
    let left₀ : 64 - 4 * (2 * place) ≡ 4 + m = omega arith in
    let left₁ : 64 - 4 * (2 * place + 1) ≡ m = omega arith in
    let left : 4 + m ≡ 64 - 8 * place = omega arith in
    ap₂ (λ (i j : ℕ). bit_xor (get_or t i 0) (get_or t j 0)) at₀ at₁
    ∙ ap₂ bit_xor (half-shifted t table (2 * place) (b % 16) (omega arith) (omega arith)) (half-shifted t table (2 * place + 1) (b / 16) (omega arith) (omega arith))
    ∙ ap₂ (λ (i j : ℕ). bit_xor (shifts i (b % 16)) (shifts j (b / 16))) left₀ left₁
    ∙ sym (shifts-split 4 m b)
    ∙ ap (λ (i : ℕ). shifts i b) left
