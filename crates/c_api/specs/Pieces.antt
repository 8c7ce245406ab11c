-- Pieces off the wire as the host sees them: every field of what a call gives, in every case.
-- Assumes nothing.
use Rattle.std.specs.Prelude.{ℕ, ◌<◌, ◌≡◌, cond, List, length, ltb}
use Rattle.laws.specs.Limits.{user_max}
use Rattle.frame.specs.Frame.{Fields}
use Rattle.receiver.specs.Receiver.{PieceOutcome, waiting, decided, piece_fields, receiving, kept_in, lent_after}
use Rattle.c_api.specs.declared.FrameWords.{FrameWords}
use Rattle.c_api.specs.declared.PieceWords.{PieceWords}
use Rattle.c_api.specs.Line.{frame_result}

-- the frame, or why there is none; all 0 where the receiver waits
abbrev pub piece_frame : PieceOutcome Fields → FrameWords
piece_frame waiting = record { length = 0; destination = 0; source = 0; control = 0; refusal = 0; block = 0 }
piece_frame (decided o) = frame_result o

abbrev pub piece_waits : PieceOutcome Fields → ℕ
piece_waits waiting = 1
piece_waits (decided o) = 0

-- a call that was given this piece, with so many bytes kept in this memory, gives r and leaves this memory and these lent bytes
pub record TookPiece (r : PieceWords) (n : ℕ) (memory memory₁ piece out out₁ : List ℕ) : Type 0 where
  pub frame : r.frame ≡ piece_frame (piece_fields (receiving (length out) (kept_in n memory) piece).outcome)
  pub waits : r.waits ≡ piece_waits (piece_fields (receiving (length out) (kept_in n memory) piece).outcome)
  pub taken : r.taken ≡ (receiving (length out) (kept_in n memory) piece).taken
  pub count : r.kept ≡ cond (ltb (length out) user_max) n (length (receiving (length out) (kept_in n memory) piece).kept)
  pub kept : kept_in r.kept memory₁ ≡ (receiving (length out) (kept_in n memory) piece).kept
  pub untouched : length out < user_max → memory₁ ≡ memory
  pub lent : out₁ ≡ lent_after out (receiving (length out) (kept_in n memory) piece).outcome
