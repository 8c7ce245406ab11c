-- The receiver: pieces of any size off the wire, made into frames (document 02, request 101).
-- Assumes nothing.
use Rattle.std.specs.Prelude.{ℕ, ◌+◌, ◌≤◌, ◌<◌, ◌≡◌, Bool, true, cond, not, List, [], ◌∷◌, ◌++◌, length, take, drop, ltb, eqb, Result, Option, Some, None}
use Rattle.octets.specs.Bytes.{splice}
use Rattle.laws.specs.First.{first, ◌⇒◌}
use Rattle.laws.specs.Limits.{user_max}
use Rattle.frame.specs.FrameOutcome.{Refusal, by, wrong_block, FrameOutcome, accepted, refused, refused_by, number_of}
use Rattle.frame.specs.Frame.{Parts, frame_size, decode, Fields, fields_of, read_of, checked_of, Whole}
use Rattle.frame.specs.WrongBlock.{user_count}
use Rattle.frame.specs.declared.Frame.{Frame}
use Rattle.frame.specs.declared.FrameRefusal.{FrameRefusal}
use Rattle.receiver.specs.declared.Reception.{Reception}

-- ---- the single-frame rule on what was taken and is not yet used up

-- "Frames and refusals are those of the single-frame rule"
abbrev pub rule : List ℕ → FrameOutcome Parts
rule s = decode user_max s

-- "For the receiver refusal 11 becomes 'waiting'"
unfoldable pub waits : List ℕ → Bool
waits s = eqb (number_of (rule s)) 11

-- "the frame's stated size"
abbrev pub stated_size : List ℕ → ℕ
stated_size s = frame_size (user_count s)

-- "After a refusal 12, 13 or 14 it moves on one byte; after 15 it moves on past the frame's stated size", and after a frame too
abbrev pub moves_on : FrameOutcome Parts → List ℕ → ℕ
moves_on (refused (by k)) s = 1
moves_on (refused (wrong_block b)) s = stated_size s
moves_on (accepted f) s = stated_size s

-- how many bytes the rule reads until it decides: the header for 12, 13 and 14, the frame's stated size for 15 and for a frame
abbrev pub decided_by : FrameOutcome Parts → List ℕ → ℕ
decided_by (refused (by k)) s = 10
decided_by (refused (wrong_block b)) s = stated_size s
decided_by (accepted f) s = stated_size s

-- ---- one call

-- the receiver waits for more, or the rule has decided
pub data PieceOutcome (A : Type 0) : Type 0 where
  waiting : PieceOutcome A
  decided : FrameOutcome A → PieceOutcome A

-- what a call comes to: its outcome, how many bytes of the piece it took, and the bytes that are kept after it
pub record Call : Type 0 where
  pub outcome : PieceOutcome Parts
  pub taken : ℕ
  pub kept : List ℕ

-- so many bytes more were taken before
abbrev pub more : ℕ → Call → Call
more k c = record { outcome = c.outcome; taken = k + c.taken; kept = c.kept }

-- the piece is used up
abbrev pub used_up : ℕ → List ℕ → Call
used_up k kept = record { outcome = waiting; taken = k; kept = kept }

-- the rule decides on the bytes s: it moves on
abbrev pub ends : ℕ → List ℕ → Call
ends k s = record { outcome = decided (rule s); taken = k; kept = drop (moves_on (rule s) s) s }

-- "A call ends at its first frame or refusal, or when the piece is used up, and says how many bytes it took, up to the one that decided": the piece
-- byte by byte, each behind the bytes kept
unfoldable pub goes_over : List ℕ → List ℕ → Call
goes_over kept [] = used_up 0 kept
goes_over kept (b ∷ piece) =
    cond (waits (kept ++ b ∷ [])) (more 1 (goes_over (kept ++ b ∷ []) piece)) (ends 1 (kept ++ b ∷ []))

-- the call, so many bytes being lent for user data. 33, under 250 lent: nothing is taken
unfoldable pub receiving : ℕ → List ℕ → List ℕ → Call
receiving room kept piece =
    first (ltb room user_max ⇒ record { outcome = decided (refused_by 33); taken = 0; kept = kept } ∷ []) (goes_over kept piece)

-- ---- what is kept, in lent memory

-- the most bytes that are kept: one under the longest frame
abbrev pub kept_max : ℕ
kept_max = 291

-- The first n lent bytes, at most 291, where the rule waits for more of them; any other count and memory stand for nothing kept. So whatever a
-- host lends, what is kept is something that the rule calls 11
unfoldable pub kept_in : ℕ → List ℕ → List ℕ
kept_in n memory = first (ltb kept_max n ⇒ [] ∷ not (waits (take n memory)) ⇒ [] ∷ []) (take n memory)

-- ---- what the answer means, and what is left in the lent bytes

-- what a call answers: as an outcome, with how many user bytes a frame has in place of them
abbrev pub piece_fields : PieceOutcome Parts → PieceOutcome Fields
piece_fields waiting = waiting
piece_fields (decided o) = decided (fields_of o)

abbrev pub answer_of : Option (Result Frame FrameRefusal) → PieceOutcome Fields
answer_of None = waiting
answer_of (Some r) = decided (read_of r)

-- a frame's user bytes go to the front of the lent bytes; nothing else is written
abbrev pub lent_after : List ℕ → PieceOutcome Parts → List ℕ
lent_after d waiting = d
lent_after d (decided (accepted f)) = splice d 0 f.user
lent_after d (decided (refused why)) = d

-- a call that was given this piece, with so many bytes kept in this memory, gives r and leaves this memory and these lent bytes. What is kept is
-- as many bytes as the call says, but with 33, which changes nothing
pub record PieceReceived (r : Reception) (n : ℕ) (memory memory₁ piece out out₁ : List ℕ) : Type 0 where
  pub answer : answer_of r.answer ≡ piece_fields (receiving (length out) (kept_in n memory) piece).outcome
  pub taken : r.taken ≡ (receiving (length out) (kept_in n memory) piece).taken
  pub count : r.kept ≡ cond (ltb (length out) user_max) n (length (receiving (length out) (kept_in n memory) piece).kept)
  pub kept : kept_in r.kept memory₁ ≡ (receiving (length out) (kept_in n memory) piece).kept
  pub untouched : length out < user_max → memory₁ ≡ memory
  pub lent : out₁ ≡ lent_after out (receiving (length out) (kept_in n memory) piece).outcome

-- ---- the steps of a call: for the functions that do them

-- how many bytes are kept after a refusal
abbrev pub kept_after : Refusal → ℕ
kept_after (by k) = 9
kept_after (wrong_block b) = 0

-- the memory's first n bytes are there, and were checked
pub record Checked (r : Result Frame FrameRefusal) (n : ℕ) (memory : List ℕ) : Type 0 where
  pub there : length (take n memory) ≡ n
  pub said : checked_of r (take n memory) ≡ rule (take n memory)
  pub whole : Whole r (take n memory)

-- the memory's first n bytes are there, and wait for more
pub record Begun (n : ℕ) (memory : List ℕ) : Type 0 where
  pub there : length (take n memory) ≡ n
  pub most : n ≤ kept_max
  pub waiting : waits (take n memory) ≡ true

-- a call comes to this: r, with this memory after it and these lent bytes before and after it
pub record Meets (r : Reception) (c : Call) (memory out out₁ : List ℕ) : Type 0 where
  pub answer : answer_of r.answer ≡ piece_fields c.outcome
  pub taken : r.taken ≡ c.taken
  pub count : r.kept ≡ length c.kept
  pub kept : kept_in r.kept memory ≡ c.kept
  pub lent : out₁ ≡ lent_after out c.outcome
