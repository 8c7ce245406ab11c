-- The rules of segments at both sides of their limits, by computation.
-- Assumes nothing.
use mathlib.Core.Path.{◌≡◌, refl}
use mathlib.Core.Bool.{true, false}
use Prim.Native.Nat.{ℕ, zero, suc}
use mathlib.Core.List.{List, [], ◌∷◌}
use Rattle.transport.specs.declared.Assembly.{Assembly}
use Rattle.laws.specs.Lists.{same}
use Rattle.laws.specs.Outcome.{accepted, refused}
use Rattle.transport.specs.Segment.{head_of, transport_header, segment_count, cut, segments_of}
use Rattle.transport.specs.Receive.{idle, behind, ignored, places, receiving, assembly_after}

abbrev some : ℕ → List ℕ
some zero = []
some (suc n) = 7 ∷ some n

abbrev heads : List (List ℕ) → List ℕ
heads [] = []
heads (s ∷ ss) = head_of s ∷ heads ss

-- begun, with this last sequence, so many bytes of data of the last segment, which had no FIR, and so many bytes
abbrev at : ℕ → ℕ → ℕ → Assembly
at q m n = record { begun = true; last = record { 0 = q }; last_fir = false; last_len = m; len = n }

-- the same after a segment with FIR
abbrev first : ℕ → ℕ → Assembly
first q n = record { begun = true; last = record { 0 = q }; last_fir = true; last_len = n; len = n }

-- FIR and FIN on one segment; FIR on the first, FIN on the last, and 0 after 63
pub sent : (segments_of 5 (1 ∷ 2 ∷ []) ≡ (0xC5 ∷ 1 ∷ 2 ∷ []) ∷ [])
    × ((heads (segments_of 63 (some 249)) ≡ 0xFF ∷ [])
    × ((heads (segments_of 63 (some 250)) ≡ 0x7F ∷ 0x80 ∷ [])
    × (heads (segments_of 62 (some 499)) ≡ 0x7E ∷ 0x3F ∷ 0x80 ∷ [])))
unfolding cut transport_header
sent = (refl, (refl, (refl, refl)))

pub counted : (segment_count 1 ≡ 1) × ((segment_count 249 ≡ 1) × ((segment_count 250 ≡ 2) × ((segment_count 1992 ≡ 8) × ((segment_count 1993 ≡ 9) × (segment_count 2048 ≡ 9)))))
counted = (refl, (refl, (refl, (refl, (refl, refl)))))

-- 2,048 exactly is taken, one more is 23; out of sequence or nothing begun is 22, and is said before 23
pub placed : (d : List ℕ) → (places (at 63 249 1799) d (0 ∷ some 249) ≡ accepted (behind 1799))
    × ((places (at 63 249 1800) d (0 ∷ some 249) ≡ refused 23)
    × ((places (at 63 249 1800) d (1 ∷ some 249) ≡ refused 22)
    × ((places idle d (1 ∷ 7 ∷ []) ≡ refused 22)
    × (places (at 3 249 2048) d (4 ∷ 7 ∷ []) ≡ refused 23))))
unfolding places same transport_header
placed d = (refl, (refl, (refl, (refl, refl))))

-- a fragment of 7 8 9 so far, the last segment's data 8 9
abbrev lent : List ℕ
lent = 7 ∷ 8 ∷ 9 ∷ 0 ∷ 0 ∷ []

-- the last one again is ignored, also as the host altered it; not with a byte changed, one less or one more, with FIN, or where it had FIR
pub repeated : (places (at 63 2 3) lent (63 ∷ 8 ∷ 9 ∷ []) ≡ accepted ignored)
    × ((places (at 63 2 3) (7 ∷ 5 ∷ 9 ∷ []) (63 ∷ 5 ∷ 9 ∷ []) ≡ accepted ignored)
    × ((places (at 63 2 3) lent (63 ∷ 8 ∷ 8 ∷ []) ≡ refused 22)
    × ((places (at 63 2 3) lent (63 ∷ 9 ∷ []) ≡ refused 22)
    × ((places (at 63 2 3) lent (63 ∷ 8 ∷ 9 ∷ 0 ∷ []) ≡ refused 22)
    × ((places (at 63 2 3) lent (0xBF ∷ 8 ∷ 9 ∷ []) ≡ refused 22)
    × ((places (first 63 3) lent (63 ∷ 7 ∷ 8 ∷ 9 ∷ []) ≡ refused 22)
    × (places (at 63 2 3) lent (0 ∷ 8 ∷ 9 ∷ []) ≡ accepted (behind 3))))))))
unfolding places same transport_header
repeated = (refl, (refl, (refl, (refl, (refl, (refl, (refl, refl)))))))

-- 33 before 21, 21 before all else; FIR takes any sequence. With 2,048 bytes standing the last one again is ignored, and the next is 23
pub received : (receiving (some 2047) idle [] ≡ refused 33)
    × ((receiving (some 2048) idle [] ≡ refused 21)
    × ((receiving (some 2048) (at 3 9 9) (0xC0 ∷ []) ≡ refused 21)
    × ((receiving (some 2048) (at 3 9 9) (0xC0 ∷ some 250) ≡ refused 21)
    × ((receiving (some 2048) (at 3 9 9) (0x69 ∷ some 249) ≡ accepted (behind 0))
    × ((receiving (some 2048) (at 3 9 9) (0x04 ∷ some 249) ≡ accepted (behind 9))
    × ((receiving (some 2048) (at 3 9 9) (0x05 ∷ 1 ∷ []) ≡ refused 22)
    × ((receiving (some 2048) (at 3 249 2048) (0x03 ∷ some 249) ≡ accepted ignored)
    × (receiving (some 2048) (at 3 249 2048) (0x04 ∷ some 249) ≡ refused 23))))))))
unfolding receiving places same transport_header
received = (refl, (refl, (refl, (refl, (refl, (refl, (refl, (refl, refl))))))))

-- what a refusal leaves: 21 and 33 the unfinished fragment, 22 and 23 nothing; a repeat leaves all of it
pub left : (s : List ℕ) → (assembly_after (at 3 9 9) s (refused 33) ≡ at 3 9 9)
    × ((assembly_after (at 3 9 9) s (refused 21) ≡ at 3 9 9)
    × ((assembly_after (at 3 9 9) s (refused 22) ≡ idle)
    × ((assembly_after (at 3 9 9) s (refused 23) ≡ idle)
    × (assembly_after (at 3 9 9) s (accepted ignored) ≡ at 3 9 9))))
left s = (refl, (refl, (refl, (refl, refl))))
