-- Laws of numbers of several bytes, over the width: what is put is taken again, and what is taken, put again, changes nothing.
-- Assumes nothing.
use mathlib.Core.Path.{◌≡◌, refl, sym, ap, ◌∙◌, subst}
use Prim.Native.Nat.{ℕ, zero, suc, ◌+◌, ◌-◌, ◌*◌, ◌/◌, ◌%◌, ◌^◌, ◌≤◌, ◌<◌}
use native.Mathlib.Nat.{pow-suc, div-lt_iff_lt-mul, zero-lt-suc, pow-le-pow_right, lt_of_lt_of_le}
use native.Mathlib.Omega.{arith}
use mathlib.Core.List.{List, [], ◌∷◌}
use lib.ListN.{length, get_or, take, drop, length-drop}
use lib.Seq.{length-take-le, get_or-drop, drop-cons}
use native.Mathlib.Numerals.{add-one}
use Rattle.octets.specs.Bytes.{splice, le, value, value_at, AreBytes}
use Rattle.octets.proofs.Splice.{stored-splice, splice-same}

pub length-le : (n v : ℕ) → length (le n v) ≡ n
unfolding le
length-le zero v = refl
length-le (suc n) v = ap suc (length-le n (v / 256))

-- one byte fewer: what a turn of a loop over the width does
pub le-more : (n v : ℕ) → 0 < n → le n v ≡ v % 256 ∷ le (n - 1) (v / 256)
unfolding le
le-more zero v h = absurd (omega arith)
le-more (suc n) v h =
    let e : n ≡ suc n - 1 = omega arith in
    ap (λ (k : ℕ). v % 256 ∷ le k (v / 256)) e

pub le-none : (n v : ℕ) → n ≤ 0 → le n v ≡ []
unfolding le
le-none zero v h = refl
le-none (suc n) v h = absurd (omega arith)

-- taking after putting
pub value-le : (n v : ℕ) → v < 256 ^ n → value (le n v) ≡ v
unfolding le value
value-le zero v h = omega arith
value-le (suc n) v h =
    let q : v / 256 < 256 ^ n = (div-lt_iff_lt-mul (zero-lt-suc 255)).1 (rw pow-suc at h) in
    let e : value (le n (v / 256)) ≡ v / 256 = value-le n (v / 256) q in
    omega arith

-- putting after taking
pub le-value : (bs : List ℕ) → AreBytes bs → le (length bs) (value bs) ≡ bs
unfolding le value
le-value [] h = refl
le-value (b ∷ bs) h =
    let lt : b < 256 = h 0 in
    let low : (b + 256 * value bs) % 256 ≡ b = omega arith in
    let high : (b + 256 * value bs) / 256 ≡ value bs = omega arith in
    rw (low, high, le-value bs (λ i. h (suc i)))

pub value-lt : (bs : List ℕ) → AreBytes bs → value bs < 256 ^ length bs
unfolding value
value-lt [] h = omega arith
value-lt (b ∷ bs) h =
    let lt : b < 256 = h 0 in
    let ih : value bs < 256 ^ length bs = value-lt bs (λ i. h (suc i)) in
    rw pow-suc (omega arith)

pub take-bytes : (n : ℕ) (s : List ℕ) → AreBytes s → AreBytes (take n s)
take-bytes zero s h i = omega arith
take-bytes (suc n) [] h i = h i
take-bytes (suc n) (x ∷ s) h zero = h 0
take-bytes (suc n) (x ∷ s) h (suc i) = take-bytes n s (λ k. h (suc k)) i

pub drop-bytes : (n : ℕ) (s : List ℕ) → AreBytes s → AreBytes (drop n s)
drop-bytes n s h i = subst (λ (k : ℕ). k < 256) (sym (get_or-drop n s i 0)) (h (n + i))

-- a number of n bytes is below 256 ^ n, and below 256 ^ m for each m from n on
pub value_at-lt : (m n at : ℕ) (s : List ℕ) → AreBytes s → at + n ≤ length s → n ≤ m → value_at n at s < 256 ^ m
value_at-lt m n at s bytes room h =
    let l : length (take n (drop at s)) ≡ n = length-take-le n (drop at s) (simp length-drop (omega arith)) in
    lt_of_lt_of_le (rw l at (value-lt (take n (drop at s)) (take-bytes n (drop at s) (drop-bytes at s bytes)))) (pow-le-pow_right (zero-lt-suc 255) h)

-- one byte more, in front: what a turn of a loop that takes from the high end does
pub value_at-more : (n at : ℕ) (s : List ℕ) → 0 < n → at < length s → value_at n at s ≡ get_or s at 0 + 256 * value_at (n - 1) (at + 1) s
unfolding value
value_at-more zero at s p h = absurd (omega arith)
value_at-more (suc n) at s p h =
    let e : suc n - 1 ≡ n = omega arith in
    rw (drop-cons s at 0 h, add-one at, e)

pub value_at-none : (n at : ℕ) (s : List ℕ) → n ≤ 0 → value_at n at s ≡ 0
unfolding value
value_at-none zero at s h = refl
value_at-none (suc n) at s h = absurd (omega arith)

-- the shared law of putting and taking, at any width
pub take_put : (n at v : ℕ) (d : List ℕ) → at + n ≤ length d → v < 256 ^ n → value_at n at (splice d at (le n v)) ≡ v
take_put n at v d room small =
    ap value
    (ap (λ (k : ℕ). take k (drop at (splice d at (le n v)))) (sym (length-le n v))
    ∙ stored-splice d at (le n v) (rw length-le room))
    ∙ value-le n v small

pub put-take : (n at : ℕ) (d : List ℕ) → at + n ≤ length d → AreBytes d → splice d at (le n (value_at n at d)) ≡ d
put-take n at d room bytes =
    let l : length (take n (drop at d)) ≡ n = length-take-le n (drop at d) (simp length-drop (omega arith)) in
    ap (λ (x : List ℕ). splice d at x)
    (ap (λ (k : ℕ). le k (value_at n at d)) (sym l) ∙ le-value (take n (drop at d)) (take-bytes n (drop at d) (drop-bytes at d bytes)))
    ∙ splice-same d at n room
