-- What a frame comes to: as any call, but one refusal carries a number of its own (document 02, request 110).
-- Assumes nothing.
use Rattle.std.specs.Prelude.{ℕ}

-- why a frame is refused: by a number of document 01's table. "Refusal 15 is to carry the number of the first wrong block, 0 to 15": it is
-- said by that number
pub data Refusal : Type 0 where
  by : ℕ → Refusal
  wrong_block : ℕ → Refusal

-- the number of a refusal
abbrev pub refusal_number : Refusal → ℕ
refusal_number (by k) = k
refusal_number (wrong_block b) = 15

-- the block that refusal 15 carries; 0 for the others
abbrev pub refusal_block : Refusal → ℕ
refusal_block (by k) = 0
refusal_block (wrong_block b) = b

-- accepted with a value, or refused
pub data FrameOutcome (A : Type 0) : Type 0 where
  accepted : A → FrameOutcome A
  refused : Refusal → FrameOutcome A

module _ {A : Type 0} where
  abbrev pub refused_by : ℕ → FrameOutcome A
  refused_by k = refused (by k)

  -- the number of a refusal, and the block that it carries; 0 where the frame was accepted
  abbrev pub number_of : FrameOutcome A → ℕ
  number_of (accepted a) = 0
  number_of (refused why) = refusal_number why

  abbrev pub block_of : FrameOutcome A → ℕ
  block_of (accepted a) = 0
  block_of (refused why) = refusal_block why
