-- A transport segment: one transport byte (FIN 80, FIR 40, sequence in the low six bits) and 1 to 249 bytes.
-- Assumes nothing.
use Rattle.std.specs.Prelude.{ℕ, zero, suc, ◌+◌, ◌-◌, ◌*◌, ◌/◌, ◌%◌, Bool, true, false, List, [], ◌∷◌, length, get_or, take, drop, eqb}
use Rattle.laws.specs.Limits.{segment_data_max}
use Rattle.transport.specs.declared.TransportSequence.{TransportSequence}

-- ---- the parts of a segment

abbrev pub head_of : List ℕ → ℕ
head_of s = get_or s 0 0

abbrev pub fin : ℕ → Bool
fin h = eqb (h / 128 % 2) 1

abbrev pub fir : ℕ → Bool
fir h = eqb (h / 64 % 2) 1

abbrev pub sequence : ℕ → ℕ
sequence h = h % 64

abbrev pub data_of : List ℕ → List ℕ
data_of s = drop 1 s

-- the sequence after this one
abbrev pub next_sequence : TransportSequence → TransportSequence
next_sequence q = record { 0 = (q.0 + 1) % 64 }

-- ---- a fragment's segments

abbrev pub bit_of : Bool → ℕ
bit_of true = 1
bit_of false = 0

unfoldable pub transport_header : Bool → Bool → ℕ → ℕ
transport_header first last q = 128 * bit_of last + 64 * bit_of first + q % 64

abbrev pub segment : Bool → Bool → ℕ → List ℕ → List ℕ
segment first last q u = transport_header first last q ∷ u

-- f/249 rounded up
abbrev pub segment_count : ℕ → ℕ
segment_count f = (f + (segment_data_max - 1)) / segment_data_max

-- the bytes u in so many segments, all full but perhaps the last, numbered from q; the last has FIN
unfoldable pub cut : ℕ → Bool → ℕ → List ℕ → List (List ℕ)
cut zero first q u = []
cut (suc k) first q u =
    segment first (eqb k 0) q (take segment_data_max u) ∷ cut k false ((q + 1) % 64) (drop segment_data_max u)

-- a fragment's segments, numbered from q; the first has FIR
abbrev pub segments_of : ℕ → List ℕ → List (List ℕ)
segments_of q f = cut (segment_count (length f)) true q f
