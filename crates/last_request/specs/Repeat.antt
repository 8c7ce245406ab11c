-- The last accepted request, and repeats of it.
-- Assumes nothing.
use Rattle.std.specs.Prelude.{ℕ, Bool, false, not, List, [], ◌∷◌, take, eqb, Option, Some, None}
use Rattle.laws.specs.Lists.{all, same}
use Rattle.application.specs.Fragment.{function_of}
use Rattle.last_request.specs.declared.LastLengths.{LastLengths}

-- none yet, or the last accepted request with its answer (no bytes where none was sent)
pub data LastRequestView : Type 0 where
  nothing : LastRequestView
  kept : List ℕ → List ℕ → LastRequestView

-- what lent bytes and lengths stand for. Any stand for some
unfoldable pub last_in : (request answer : List ℕ) → Option LastLengths → LastRequestView
last_in request answer None = nothing
last_in request answer (Some n) = kept (take n.request_len request) (take n.answer_len answer)

-- "A request equal in every byte to the last accepted request, not a READ, is a repeat"
unfoldable pub is_repeat : LastRequestView → List ℕ → Bool
is_repeat nothing f = false
is_repeat (kept request answer) f = all (not (eqb (function_of f) 1) ∷ same f request ∷ [])

-- "the same answer again"
abbrev pub kept_answer : LastRequestView → List ℕ
kept_answer nothing = []
kept_answer (kept request answer) = answer
