-- A link frame's bytes, written and read back (document 01, "Bytes on the line", rows 11 to 16 and 33; document 02, request 110).
-- Assumes nothing.
use Rattle.std.specs.Prelude.{ℕ, zero, suc, ◌+◌, ◌-◌, ◌*◌, ◌/◌, ◌≤◌, ◌≡◌, Bool, cond, not, List, [], ◌∷◌, ◌++◌, length, get_or, take, drop, ltb, eqb, Result, Ok, Err}
use Rattle.laws.specs.First.{first, ◌⇒◌}
use Rattle.laws.specs.Limits.{user_max, frame_max}
use Rattle.laws.specs.Outcome.{Outcome, accepted, refused}
use Rattle.octets.specs.Bytes.{splice, le, value_at}
use Rattle.crc.specs.Check.{check_of}
use Rattle.frame.specs.FrameOutcome.{Refusal, by, wrong_block, FrameOutcome, refused_by}
use Rattle.frame.specs.FrameOutcome as R
use Rattle.frame.specs.declared.Frame.{Frame}
use Rattle.frame.specs.declared.FrameRefusal.{FrameRefusal}
use Rattle.frame.specs.declared.FrameRefusal.TheVariants as F
use Rattle.frame.specs.declared.WriteRefusal.{WriteRefusal}
use Rattle.frame.specs.declared.WriteRefusal.TheVariants as W

-- what a frame says
pub record Parts : Type 0 where
  pub control : ℕ
  pub destination : ℕ
  pub source : ℕ
  pub user : List ℕ

abbrev pub parts : ℕ → ℕ → ℕ → List ℕ → Parts
parts c d s u = record { control = c; destination = d; source = s; user = u }

-- ---- the frame's bytes

-- bytes, then their 2-byte check
unfoldable pub with_crc : List ℕ → List ℕ
with_crc bs = bs ++ le 2 (check_of bs)

-- how many blocks n user bytes take: n/16 rounded up
abbrev pub block_count : ℕ → ℕ
block_count n = (n + 15) / 16

-- "the frame has 10 + n + 2 × (n/16 rounded up) bytes"
abbrev pub frame_size : ℕ → ℕ
frame_size n = 10 + n + 2 * block_count n

-- "n user bytes in blocks of 16, the last perhaps shorter, each with a 2-byte check": the bytes u in k blocks
unfoldable pub blocks : ℕ → List ℕ → List ℕ
blocks zero u = []
blocks (suc k) u = with_crc (take 16 u) ++ blocks k (drop 16 u)

-- "05 64, length, control, destination (2), source (2)"; "Length is n + 5"
unfoldable pub link_header : ℕ → ℕ → ℕ → ℕ → List ℕ
link_header n control destination source = 5 ∷ 100 ∷ (n + 5) ∷ control ∷ (le 2 destination ++ le 2 source)

-- the whole frame
unfoldable pub encode : Parts → List ℕ
encode f =
    with_crc (link_header (length f.user) f.control f.destination f.source) ++ blocks (block_count (length f.user)) f.user

-- ---- writing: 33 for under 292 lent bytes, 16 for user data over 250

unfoldable pub encode_into : ℕ → Parts → Outcome (List ℕ)
encode_into room f =
    first (ltb room frame_max ⇒ refused 33 ∷ ltb user_max (length f.user) ⇒ refused 16 ∷ []) (accepted (encode f))

-- ---- reading

-- bytes that end in their check, without it
unfoldable pub without_crc : List ℕ → List ℕ
without_crc g = take (length g - 2) g

-- the last two bytes are the check of the others
unfoldable pub crc_ok : List ℕ → Bool
crc_ok g = eqb (check_of (without_crc g)) (value_at 2 (length g - 2) g)

-- "the number of the first wrong block", of k blocks: i where block i is wrong and no earlier one is; k where none is wrong. Counted from 0
unfoldable pub first_wrong : ℕ → List ℕ → ℕ
first_wrong zero b = 0
first_wrong (suc k) b = cond (crc_ok (take 18 b)) (suc (first_wrong k (drop 18 b))) 0

-- the user bytes of k blocks
unfoldable pub users : ℕ → List ℕ → List ℕ
users zero b = []
users (suc k) b = without_crc (take 18 b) ++ users k (drop 18 b)

-- the blocks of a frame with n user bytes: from byte 10 up to its size. "Bytes after the frame are not read."
abbrev pub body_of : ℕ → List ℕ → List ℕ
body_of n s = take (frame_size n - 10) (drop 10 s)

abbrev pub user_of : ℕ → List ℕ → List ℕ
user_of n s = users (block_count n) (body_of n s)

abbrev pub first_wrong_of : ℕ → List ℕ → ℕ
first_wrong_of n s = first_wrong (block_count n) (body_of n s)

-- "11 for the frame's size comes after 14"; then 15, a block check wrong, with the first such block
unfoldable pub decode_body : ℕ → List ℕ → FrameOutcome Parts
decode_body n s =
    first (
    ltb (length s) (frame_size n) ⇒ refused_by 11
    ∷ ltb (first_wrong_of n s) (block_count n) ⇒ R.refused (wrong_block (first_wrong_of n s))
    ∷ [])
    (R.accepted (parts (get_or s 3 0) (value_at 2 4 s) (value_at 2 6 s) (user_of n s)))

-- the frame at the front of the bytes s, to be read into so many lent bytes. In 01's order: 33, under 250 lent;
-- 11, under 10 bytes; 12, not 05 64; 13, header check wrong; 14, length byte under 5; then the body
unfoldable pub decode : ℕ → List ℕ → FrameOutcome Parts
decode room s =
    first (
    ltb room user_max ⇒ refused_by 33
    ∷ ltb (length s) 10 ⇒ refused_by 11
    ∷ not (eqb (get_or s 0 0) 5) ⇒ refused_by 12
    ∷ not (eqb (get_or s 1 0) 100) ⇒ refused_by 12
    ∷ not (crc_ok (take 10 s)) ⇒ refused_by 13
    ∷ ltb (get_or s 2 0) 5 ⇒ refused_by 14
    ∷ [])
    (decode_body (get_or s 2 0 - 5) s)

-- ---- writing: what the answer means, and what is left in the lent bytes. A refusal leaves them, and so do the bytes past the output

-- the number of each refusal to write
abbrev pub write_refusal_of : WriteRefusal → ℕ
write_refusal_of W.UserTooLong = 16
write_refusal_of W.OutputTooSmall = 33

abbrev pub wrote_of : Result ℕ WriteRefusal → Outcome ℕ
wrote_of (Ok n) = accepted n
wrote_of (Err why) = refused (write_refusal_of why)

abbrev pub written_size : Outcome (List ℕ) → Outcome ℕ
written_size (accepted bs) = accepted (length bs)
written_size (refused k) = refused k

abbrev pub lent_after_write : List ℕ → Outcome (List ℕ) → List ℕ
lent_after_write d (accepted bs) = splice d 0 bs
lent_after_write d (refused k) = d

-- a call that wrote these parts, with these lent bytes before and after it, answers w
pub record FrameWritten (w : Result ℕ WriteRefusal) (f : Parts) (before after : List ℕ) : Type 0 where
  pub answer : wrote_of w ≡ written_size (encode_into (length before) f)
  pub lent : after ≡ lent_after_write before (encode_into (length before) f)

-- ---- reading: what the answer means, and what is left in the lent bytes

-- what reading a frame answers: its fields, and how many user bytes it has
pub record Fields : Type 0 where
  pub control : ℕ
  pub destination : ℕ
  pub source : ℕ
  pub len : ℕ

abbrev pub fields : ℕ → ℕ → ℕ → ℕ → Fields
fields c d s n = record { control = c; destination = d; source = s; len = n }

abbrev pub fields_of : FrameOutcome Parts → FrameOutcome Fields
fields_of (R.accepted f) = R.accepted (fields f.control f.destination f.source (length f.user))
fields_of (R.refused why) = R.refused why

-- the number of each refusal; 15 carries its block
abbrev pub refusal_of : FrameRefusal → Refusal
refusal_of F.TooShort = by 11
refusal_of F.Start = by 12
refusal_of F.HeaderCheck = by 13
refusal_of F.Length = by 14
refusal_of (F.BlockCheck b) = wrong_block b
refusal_of F.OutputTooSmall = by 33

abbrev pub read_of : Result Frame FrameRefusal → FrameOutcome Fields
read_of (Ok f) = R.accepted (fields f.control f.destination f.source f.len)
read_of (Err why) = R.refused (refusal_of why)

-- the user data goes to the front of the lent bytes
abbrev pub lent_after_read : List ℕ → FrameOutcome Parts → List ℕ
lent_after_read d (R.accepted f) = splice d 0 f.user
lent_after_read d (R.refused why) = d

-- a call that read the bytes s, with these lent bytes before and after it, answers r
pub record FrameRead (r : Result Frame FrameRefusal) (s before after : List ℕ) : Type 0 where
  pub answer : read_of r ≡ fields_of (decode (length before) s)
  pub lent : after ≡ lent_after_read before (decode (length before) s)

-- ---- a frame that was checked and not yet copied: its user data is still in its blocks

abbrev pub checked_of : Result Frame FrameRefusal → List ℕ → FrameOutcome Parts
checked_of (Ok f) s = R.accepted (parts f.control f.destination f.source (user_of f.len s))
checked_of (Err why) s = R.refused (refusal_of why)

-- a frame that was found is there to its end
abbrev pub Whole : Result Frame FrameRefusal → List ℕ → Type 0
Whole (Ok f) s = (f.len ≤ user_max) × (frame_size f.len ≤ length s)
Whole (Err why) s = Unit {0}
