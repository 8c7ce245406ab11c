-- Laws of bytes in hex.
-- Assumes nothing.
use mathlib.Core.Path.{◌≡◌, refl, sym, ap, ◌∙◌}
use mathlib.Core.Bool.{true, false}
use Prim.Native.Nat.{ℕ, suc, ◌+◌, ◌*◌, ◌/◌, ◌%◌, ◌≤◌, ◌<◌}
use native.Mathlib.Numerals.{add-one}
use native.Mathlib.Omega.{arith}
use mathlib.Core.List.{List, [], ◌∷◌, ◌++◌, append_assoc, append-nil}
use lib.ListN.{length, get_or, set, take, drop, drop_of_length-le}
use lib.Seq.{drop-cons, take-suc-set}
use borrow.Author.Tests.{lt-ltb, le-ltb, eq-eqb, ne_eqb}
use Rattle.std.specs.Prelude.{None}
use Rattle.octets.specs.Bytes.{splice}
use Rattle.octets.proofs.Splice.{splice-nil}
use Rattle.text.specs.Words.{cursor_after, digit_of, hex_of, nibble_of, all_hex, unhex, bytes, no_bytes, hex_read, four_bytes}
use Rattle.text.proofs.Writing.{splice-after}

pub hex-turn : (d : List ℕ) (to i : ℕ) (s : List ℕ) → i < length s
    → splice (splice d to (digit_of (get_or s i 0 / 16) ∷ digit_of (get_or s i 0 % 16) ∷ [])) (cursor_after (length d) to 2) (hex_of (drop (i + 1) s))
    ≡ splice d to (hex_of (drop i s))
unfolding hex_of
hex-turn d to i s h =
    splice-after d to (digit_of (get_or s i 0 / 16) ∷ digit_of (get_or s i 0 % 16) ∷ []) (hex_of (drop (i + 1) s))
    ∙ ap (λ (l : List ℕ). splice d to (hex_of l)) (ap (λ (k : ℕ). get_or s i 0 ∷ drop k s) (add-one i) ∙ sym (drop-cons s i 0 h))

pub hex-end : (d : List ℕ) (to i : ℕ) (s : List ℕ) → length s ≤ i → splice d to (hex_of (drop i s)) ≡ d
unfolding hex_of
hex-end d to i s h = rw (drop_of_length-le s h) (splice-nil d to)

pub length-hex_of : (bs : List ℕ) → length (hex_of bs) ≡ 2 * length bs
unfolding hex_of
length-hex_of [] = refl
length-hex_of (b ∷ bs) = omega (arith, length-hex_of bs)

-- ---- reading: a turn takes two digits

module _ (i : ℕ) (w : List ℕ) (h : i + 1 < length w) where
  front : drop i w ≡ get_or w i 0 ∷ get_or w (i + 1) 0 ∷ drop (i + 2) w
  front =
      let n : suc (i + 1) ≡ i + 2 = omega arith in
      drop-cons w i 0 (omega arith)
      ∙ ap (λ (k : ℕ). get_or w i 0 ∷ drop k w) (sym (add-one i))
      ∙ ap (λ (l : List ℕ). get_or w i 0 ∷ l) (drop-cons w (i + 1) 0 h ∙ ap (λ (k : ℕ). get_or w (i + 1) 0 ∷ drop k w) n)

  pub first-none : 15 < nibble_of (get_or w i 0) → all_hex (drop i w) ≡ false
  unfolding all_hex
  first-none a = rw (front, le-ltb (nibble_of (get_or w i 0)) 16 (omega arith))

  pub second_none : nibble_of (get_or w i 0) ≤ 15 → 15 < nibble_of (get_or w (i + 1) 0) → all_hex (drop i w) ≡ false
  unfolding all_hex
  second_none a b = rw (front, lt-ltb (nibble_of (get_or w i 0)) 16 (omega arith), le-ltb (nibble_of (get_or w (i + 1) 0)) 16 (omega arith))

  pub both-digits : nibble_of (get_or w i 0) ≤ 15 → nibble_of (get_or w (i + 1) 0) ≤ 15 → all_hex (drop (i + 2) w) ≡ all_hex (drop i w)
  unfolding all_hex
  both-digits a b = rw (front, lt-ltb (nibble_of (get_or w i 0)) 16 (omega arith), lt-ltb (nibble_of (get_or w (i + 1) 0)) 16 (omega arith))

  pub unhex-turn : (d : List ℕ) (k x : ℕ) → k < length d → x ≡ 16 * nibble_of (get_or w i 0) + nibble_of (get_or w (i + 1) 0)
      → take (k + 1) (set d k x) ++ unhex (drop (i + 2) w) ≡ take k d ++ unhex (drop i w)
  unfolding unhex
  unhex-turn d k x r e =
      ap (λ (l : List ℕ). l ++ unhex (drop (i + 2) w)) (ap (λ (n : ℕ). take n (set d k x)) (add-one k) ∙ take-suc-set d k x r)
      ∙ append_assoc (take k d) (x ∷ []) (unhex (drop (i + 2) w))
      ∙ ap (λ (l : List ℕ). take k d ++ l) (ap (λ (y : ℕ). y ∷ unhex (drop (i + 2) w)) e ∙ ap unhex (sym front))

pub hex-whole : (d : List ℕ) (k i : ℕ) (w : List ℕ) → length w ≤ i → take k d ++ unhex (drop i w) ≡ take k d
unfolding unhex
hex-whole d k i w h = rw (drop_of_length-le w h) (append-nil (take k d))

pub hex-all : (i : ℕ) (w : List ℕ) → length w ≤ i → all_hex (drop i w) ≡ true
unfolding all_hex
hex-all i w h = rw (drop_of_length-le w h)

-- the tests in order
module _ (room : ℕ) (w : List ℕ) where
  pub read-room : room < length w / 2 → hex_read room w ≡ no_bytes
  unfolding hex_read
  read-room h = rw (lt-ltb room (length w / 2) h)

  pub read-odd : length w / 2 ≤ room → (length w % 2 ≡ 0 → ⊥) → hex_read room w ≡ no_bytes
  unfolding hex_read
  read-odd h o = rw (le-ltb room (length w / 2) h, ne_eqb (length w % 2) 0 o)

  pub read-not : length w / 2 ≤ room → length w % 2 ≡ 0 → all_hex w ≡ false → hex_read room w ≡ no_bytes
  unfolding hex_read
  read-not h o a = rw (le-ltb room (length w / 2) h, eq-eqb (length w % 2) 0 o, a)

  pub read_all : length w / 2 ≤ room → length w % 2 ≡ 0 → all_hex w ≡ true → hex_read room w ≡ bytes (unhex w)
  unfolding hex_read
  read_all h o a = rw (le-ltb room (length w / 2) h, eq-eqb (length w % 2) 0 o, a)

-- a float has four bytes
pub not-four : (s : List ℕ) → (length s ≡ 4 → ⊥) → four_bytes (bytes s) ≡ None
not-four [] h = refl
not-four (a ∷ []) h = refl
not-four (a ∷ b ∷ []) h = refl
not-four (a ∷ b ∷ c ∷ []) h = refl
not-four (a ∷ b ∷ c ∷ d ∷ []) h = absurd (h refl)
not-four (a ∷ b ∷ c ∷ d ∷ e ∷ s) h = refl
