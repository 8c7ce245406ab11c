-- What is shown is read again: a number from its decimal digits, bytes from their hex digits.
-- Assumes nothing.
use mathlib.Core.Path.{◌≡◌, refl}
use mathlib.Core.Bool.{Bool, true, false, cond}
use Prim.Native.Nat.{ℕ, zero, suc, ◌+◌, ◌-◌, ◌*◌, ◌/◌, ◌%◌, ◌^◌, ◌≤◌, ◌<◌}
use native.Mathlib.Nat.{pow-suc, div-lt_iff_lt-mul, zero-lt-suc}
use native.Mathlib.Omega.{arith}
use mathlib.Core.List.{List, [], ◌∷◌, ◌++◌}
use lib.ListN.{length, get_or, length-append, get_or-append}
use lib.Dec.{ltb}
use borrow.Author.Tests.{lt-ltb, le-ltb, ltb-true, ltb-false, eq-eqb, ne_eqb}
use Rattle.octets.specs.Bytes.{AreBytes}
use Rattle.text.specs.Words.{padded, whole_within, decimal_in, whole, shown_by, decimal_of, nibble_of, digit_of, all_hex, unhex, hex_read, hex_of, bytes}
use Rattle.text.proofs.DecimalLaws.{said-shown, all_shown}
use Rattle.text.proofs.HexLaws.{length-hex_of}

-- ---- decimal

some-digit : (k v : ℕ) → 0 < length (shown_by k v)
unfolding shown_by
some-digit zero v = omega arith
some-digit (suc k) v = go (ltb v 10)
  where
    go : (t : Bool) → 0 < length (cond t ((48 + v % 10) ∷ []) (shown_by k (v / 10) ++ ((48 + v % 10) ∷ [])))
    go true = omega arith
    go false = simp length-append (omega arith)

-- no zero in front
first-digit : (k v : ℕ) → 0 < v → v < 10 ^ (k + 1) → 48 < get_or (shown_by k v) 0 0
unfolding shown_by
first-digit zero v p h = omega arith
first-digit (suc k) v p h = go (ltb v 10) refl (λ a b. first-digit k (v / 10) a b)
  where
    go : (t : Bool) → ltb v 10 ≡ t → (0 < v / 10 → v / 10 < 10 ^ (k + 1) → 48 < get_or (shown_by k (v / 10)) 0 0)
        → 48 < get_or (cond t ((48 + v % 10) ∷ []) (shown_by k (v / 10) ++ ((48 + v % 10) ∷ []))) 0 0
    go true e f = omega (arith, ltb-true v 10 e)
    go false e f =
        let n : suc k + 1 ≡ suc (k + 1) = omega arith in
        let q : v / 10 < 10 ^ (k + 1) = (div-lt_iff_lt-mul (zero-lt-suc 9)).1 (rw (n, pow-suc) at h) in
        let p : 0 < v / 10 = omega (arith, ltb-false v 10 e) in
        rw (get_or-append (shown_by k (v / 10)) ((48 + v % 10) ∷ []) 0 0 (some-digit k (v / 10))) (f p q)

not-padded : (k v : ℕ) → v < 10 ^ (k + 1) → padded (shown_by k v) ≡ false
unfolding shown_by padded
not-padded zero v h = refl
not-padded (suc k) v h = go (ltb v 10) refl
  where
    go : (t : Bool) → ltb v 10 ≡ t → padded (cond t ((48 + v % 10) ∷ []) (shown_by k (v / 10) ++ ((48 + v % 10) ∷ []))) ≡ false
    go true e = refl
    go false e =
        let w : List ℕ = shown_by k (v / 10) ++ ((48 + v % 10) ∷ []) in
        let n : suc k + 1 ≡ suc (k + 1) = omega arith in
        let q : v / 10 < 10 ^ (k + 1) = (div-lt_iff_lt-mul (zero-lt-suc 9)).1 (rw (n, pow-suc) at h) in
        let p : 0 < v / 10 = omega (arith, ltb-false v 10 e) in
        let f : 48 < get_or (shown_by k (v / 10)) 0 0 = first-digit k (v / 10) p q in
        let g : get_or w 0 0 ≡ get_or (shown_by k (v / 10)) 0 0 = get_or-append (shown_by k (v / 10)) ((48 + v % 10) ∷ []) 0 0 (some-digit k (v / 10)) in
        let l : length w ≡ length (shown_by k (v / 10)) + 1 = length-append (shown_by k (v / 10)) ((48 + v % 10) ∷ []) in
        let s : 0 < length (shown_by k (v / 10)) = some-digit k (v / 10) in
        rw (le-ltb (length w) 1 (omega arith), le-ltb (length w) 2 (omega arith), ne_eqb (get_or w 0 0) 48 (λ z. omega arith))

pub whole-shown : (limit v : ℕ) → v ≤ limit → v < 10 ^ 20 → decimal_in limit (decimal_of v) ≡ whole v
unfolding decimal_in whole_within
whole-shown limit v h k = rw (not-padded 19 v k, all_shown 19 v, said-shown 19 v k, le-ltb limit v h)

-- ---- hex

nibble-digit : (d : ℕ) → d < 16 → nibble_of (digit_of d) ≡ d
unfolding nibble_of digit_of
nibble-digit d h = go (ltb d 10) refl
  where
    go : (t : Bool) → ltb d 10 ≡ t → nibble_of (cond t (48 + d) (55 + d)) ≡ d
    go true e =
        let l : d < 10 = ltb-true d 10 e in
        let m : 48 + d - 48 ≡ d = omega arith in
        rw (le-ltb (48 + d) 48 (omega arith), lt-ltb (48 + d) 58 (omega arith)) m
    go false e =
        let l : 10 ≤ d = ltb-false d 10 e in
        let m : 55 + d - 55 ≡ d = omega arith in
        rw (le-ltb (55 + d) 48 (omega arith), le-ltb (55 + d) 58 (omega arith), le-ltb (55 + d) 65 (omega arith), lt-ltb (55 + d) 71 (omega arith)) m

all-hex_of : (bs : List ℕ) → AreBytes bs → all_hex (hex_of bs) ≡ true
unfolding hex_of all_hex
all-hex_of [] h = refl
all-hex_of (b ∷ bs) h =
    let l : b < 256 = h 0 in
    let x : nibble_of (digit_of (b / 16)) ≡ b / 16 = nibble-digit (b / 16) (omega arith) in
    let y : nibble_of (digit_of (b % 16)) ≡ b % 16 = nibble-digit (b % 16) (omega arith) in
    rw (x, y, lt-ltb (b / 16) 16 (omega arith), lt-ltb (b % 16) 16 (omega arith)) (all-hex_of bs (λ i. h (suc i)))

pub unhex-hex_of : (bs : List ℕ) → AreBytes bs → unhex (hex_of bs) ≡ bs
unfolding hex_of unhex
unhex-hex_of [] h = refl
unhex-hex_of (b ∷ bs) h =
    let l : b < 256 = h 0 in
    let x : nibble_of (digit_of (b / 16)) ≡ b / 16 = nibble-digit (b / 16) (omega arith) in
    let y : nibble_of (digit_of (b % 16)) ≡ b % 16 = nibble-digit (b % 16) (omega arith) in
    let z : 16 * (b / 16) + b % 16 ≡ b = omega arith in
    rw (x, y, z, unhex-hex_of bs (λ i. h (suc i)))

pub read-hex_of : (room : ℕ) (bs : List ℕ) → AreBytes bs → length bs ≤ room → hex_read room (hex_of bs) ≡ bytes bs
unfolding hex_read
read-hex_of room bs h k =
    let l : length (hex_of bs) ≡ 2 * length bs = length-hex_of bs in
    rw (le-ltb room (length (hex_of bs) / 2) (omega arith), eq-eqb (length (hex_of bs) % 2) 0 (omega arith), all-hex_of bs h, unhex-hex_of bs h)
