-- The station's rule at frames that were written, and at each case of the rule, by computation.
-- Assumes nothing.
use mathlib.Core.Path.{◌≡◌, refl, ap}
use Prim.Native.Nat.{ℕ, ◌≤◌, ◌<◌}
use mathlib.Core.List.{List, [], ◌∷◌, ◌++◌}
use Rattle.laws.specs.Limits.{user_max}
use Rattle.frame.specs.FrameOutcome.{wrong_block, FrameOutcome, accepted, refused, refused_by}
use Rattle.frame.specs.Frame.{Parts, parts, encode}
use Rattle.frame.proofs.RoundTrip.{decode-encode}
use Rattle.link.specs.declared.Station.{Station}
use Rattle.link.specs.declared.LineRecord.{LineRecord}
use Rattle.link.specs.Station.{Action, user_data, reply, addressed, by_function, takes, station, counted_of}

-- a frame that was written is taken as what it says, whatever bytes follow
pub station-encode : (st : Station) (f : Parts) (rest : List ℕ) (room : ℕ) → user_max ≤ room → f.destination < 65536 → f.source < 65536
    → station room st (encode f ++ rest) ≡ takes st (accepted f)
unfolding station
station-encode st f rest room h d s = ap (takes st) (decode-encode f rest room h d s)

abbrev st : Station
st = record { own = 1; master = 1024 }

-- control C4 is DIR, PRM and function 4; D4 has FCV too
abbrev of : ℕ → ℕ → ℕ → List ℕ → FrameOutcome Action
of control destination source user = takes st (accepted (parts control destination source user))

pub cases :
    (of 0xC4 1 1024 (7 ∷ 8 ∷ []) ≡ accepted (user_data (7 ∷ 8 ∷ [])))
    × ((of 0xC4 1 1024 [] ≡ refused_by 17)
    × ((of 0xD4 1 1024 (7 ∷ []) ≡ refused_by 17)
    × ((of 0xC0 1 1024 [] ≡ accepted (reply 0x00))
    × ((of 0xC0 1 1024 (7 ∷ []) ≡ refused_by 17)
    × ((of 0xC9 1 1024 [] ≡ accepted (reply 0x0B))
    × ((of 0xF9 1 1024 [] ≡ refused_by 17)
    × ((of 0xE9 1 1024 [] ≡ accepted (reply 0x0B))
    × ((of 0xF3 1 1024 (7 ∷ []) ≡ accepted (reply 0x0F))
    × ((of 0xC4 2 1024 (7 ∷ []) ≡ refused_by 17)
    × ((of 0xC4 1 1025 (7 ∷ []) ≡ refused_by 17)
    × ((of 0x84 1 1024 (7 ∷ []) ≡ refused_by 17)
    × ((of 0x44 1 1024 (7 ∷ []) ≡ refused_by 17)
    × (of 0xC4 65535 1024 (7 ∷ []) ≡ refused_by 17)))))))))))))
unfolding addressed by_function
cases = (refl, (refl, (refl, (refl, (refl, (refl, (refl, (refl, (refl, (refl, (refl, (refl, (refl, refl)))))))))))))

abbrev of_number : LineRecord → ℕ → LineRecord
of_number l k = counted_of {A = ℕ} l (refused_by k)

abbrev of-block : LineRecord → ℕ → LineRecord
of-block l b = counted_of {A = ℕ} l (refused (wrong_block b))

-- a count stops at 65,535, and the others go on; a refusal 33 is not counted, and a wrong block is by its number
pub counts : (l : LineRecord) → l.accepted ≡ 65535 → l.short ≡ 4 → l.blocks ≡ 7 ∷ 65535 ∷ 9 ∷ [] → l.block_check ≡ 5
    → ((counted_of {A = ℕ} l (accepted 0)).accepted ≡ 65535)
    × (((of_number l 11).short ≡ 5)
    × ((of_number l 33 ≡ l)
    × (((of-block l 2).blocks ≡ 7 ∷ 65535 ∷ 10 ∷ [])
    × (((of-block l 2).block_check ≡ 6)
    × (((of-block l 1).blocks ≡ l.blocks)
    × ((of_number l 14).blocks ≡ l.blocks))))))
counts l a s b c = (rw a refl, (rw s refl, (refl, (rw b refl, (rw c refl, (rw b refl, refl))))))
