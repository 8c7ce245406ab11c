-- What the station's refusal 15 carries and counts, about the call, both ways (document 02, request 110: "the station … follow").
-- Assumes nothing.
use Rattle.std.specs.Prelude.{ℕ, ◌≤◌, ◌≡◌, true, List, length, get_or, Result, Err}
use Rattle.octets.specs.Bytes.{AreBytes}
use Rattle.frame.specs.FrameOutcome.{number_of}
use Rattle.frame.specs.WrongBlock.{FirstWrong, RightBefore15}
use Rattle.frame.specs.declared.FrameRefusal.TheVariants.{BlockCheck}
use Rattle.link.specs.declared.Station.{Station}
use Rattle.link.specs.declared.LineRecord.{LineRecord}
use Rattle.link.specs.declared.Taken.{Taken}
use Rattle.link.specs.declared.TakeRefusal.{TakeRefusal}
use Rattle.link.specs.declared.TakeRefusal.TheVariants.{Frame}
use Rattle.link.specs.Station.{count_if, taken_of, FrameCounted}

-- "the line record keeps a count for each": block k has one more, unless it stands at 65,535, and each other block what it had
pub record CountedAlone (k : ℕ) (before after : List ℕ) : Type 0 where
  pub size : length after ≡ length before
  pub one : get_or after k 0 ≡ count_if true (get_or before k 0)
  pub others : (j : ℕ) → (j ≡ k → ⊥) → get_or after j 0 ≡ get_or before j 0

-- What `receive` refuses by 15 it refuses with the first wrong block, "0 to 15", and counts by that block and no other. A line record has
-- sixteen such counts
unfoldable pub TakenIsFirst : Type 0
TakenIsFirst =
    (t : Result Taken TakeRefusal) (l l₁ : LineRecord) (st : Station) (s out user : List ℕ) (k : ℕ)
    → AreBytes s → length l.blocks ≡ 16 → FrameCounted t l l₁ st s out user → t ≡ Err (Frame (BlockCheck k))
    → FirstWrong k s × ((k ≤ 15) × CountedAlone k l.blocks l₁.blocks)

-- Where the first wrong block is k, `receive` refuses by 15 with k, whoever the frame is for
unfoldable pub FirstIsTaken : Type 0
FirstIsTaken =
    (t : Result Taken TakeRefusal) (l l₁ : LineRecord) (st : Station) (s out user : List ℕ) (k : ℕ)
    → RightBefore15 (length out) s → FirstWrong k s → FrameCounted t l l₁ st s out user → t ≡ Err (Frame (BlockCheck k))

-- No other answer changes the counts by block
unfoldable pub OthersCountNone : Type 0
OthersCountNone =
    (t : Result Taken TakeRefusal) (l l₁ : LineRecord) (st : Station) (s out user : List ℕ)
    → FrameCounted t l l₁ st s out user → (number_of (taken_of t) ≡ 15 → ⊥) → l₁.blocks ≡ l.blocks
