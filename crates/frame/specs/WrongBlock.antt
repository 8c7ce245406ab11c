-- What refusal 15 carries, about the call, both ways (document 02, request 110).
-- Assumes nothing.
use Rattle.std.specs.Prelude.{ℕ, ◌-◌, ◌*◌, ◌≤◌, ◌<◌, ◌≡◌, true, false, List, length, get_or, take, drop, Result, Err}
use Rattle.laws.specs.Limits.{user_max}
use Rattle.octets.specs.Bytes.{AreBytes}
use Rattle.frame.specs.declared.Frame.{Frame}
use Rattle.frame.specs.declared.FrameRefusal.{FrameRefusal}
use Rattle.frame.specs.declared.FrameRefusal.TheVariants.{BlockCheck}
use Rattle.frame.specs.Frame.{crc_ok, block_count, frame_size, body_of, FrameRead}

-- how many user bytes the frame at the front of the bytes has, by its length byte
abbrev pub user_count : List ℕ → ℕ
user_count s = get_or s 2 0 - 5

-- block k of that frame: its user bytes 16k to 16k + 15, fewer at the end, and their check
abbrev pub block_at : ℕ → List ℕ → List ℕ
block_at k s = take 18 (drop (18 * k) (body_of (user_count s) s))

-- "the first wrong block": the frame has a block k, it is wrong, and no earlier one is
pub record FirstWrong (k : ℕ) (s : List ℕ) : Type 0 where
  pub there : k < block_count (user_count s)
  pub wrong : crc_ok (block_at k s) ≡ false
  pub before : (j : ℕ) → j < k → crc_ok (block_at j s) ≡ true

-- What `read_frame` refuses by 15 it refuses with the first wrong block, "0 to 15"
unfoldable pub CarriedIsFirst : Type 0
CarriedIsFirst =
    (r : Result Frame FrameRefusal) (s out user : List ℕ) (k : ℕ) → AreBytes s → FrameRead r s out user → r ≡ Err (BlockCheck k) → FirstWrong k s × (k ≤ 15)

-- nothing that comes before 15 is wrong: the lent bytes, 05 64, the header's check, the length byte, the frame's size
pub record RightBefore15 (room : ℕ) (s : List ℕ) : Type 0 where
  pub lent : user_max ≤ room
  pub start : (get_or s 0 0 ≡ 5) × (get_or s 1 0 ≡ 100)
  pub header : crc_ok (take 10 s) ≡ true
  pub long : 5 ≤ get_or s 2 0
  pub whole : frame_size (user_count s) ≤ length s

-- And where the first wrong block is k, `read_frame` refuses by 15 with k
unfoldable pub FirstIsCarried : Type 0
FirstIsCarried =
    (r : Result Frame FrameRefusal) (s out user : List ℕ) (k : ℕ) → RightBefore15 (length out) s → FirstWrong k s → FrameRead r s out user → r ≡ Err (BlockCheck k)
