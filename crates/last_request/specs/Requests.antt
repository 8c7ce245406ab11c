-- A list of accepted requests, the latest first: which are repeats, what each carries out, and what it leaves behind.
-- Assumes nothing.
use Rattle.std.specs.Prelude.{ℕ, ◌≤◌, Bool, cond, List, [], ◌∷◌, ◌++◌, eqb}
use Rattle.laws.specs.First.{first, ◌⇒◌}
use Rattle.application.specs.Fragment.{control_of, sequence_of, function_of, objects_of}
use Rattle.control.specs.declared.ControlObject.{ControlObject}
use Rattle.control.specs.Status.{Outputs}
use Rattle.select_latch.specs.declared.ControlFunction.{ControlFunction}
use Rattle.select_latch.specs.declared.ControlFunction.TheVariants.{Select, Operate, DirectOperate, DirectOperateNoResponse}
use Rattle.select_latch.specs.Select.{LatchView, no_select, control_effect}
use Rattle.last_request.specs.Repeat.{LastRequestView, nothing, kept, is_repeat, kept_answer}

-- an accepted request: its bytes, its time, and the answer that is built for it where it is no repeat
pub record Request : Type 0 where
  pub bytes : List ℕ
  pub time : ℕ
  pub answer : List ℕ

abbrev pub sequence_in : Request → ℕ
sequence_in r = sequence_of (control_of r.bytes)

abbrev pub function_in : Request → ℕ
function_in r = function_of r.bytes

abbrev pub objects_in : Request → List ℕ
objects_in r = objects_of r.bytes

-- the times of a list of requests never fall: none came earlier than the one before it
abbrev pub InOrder : List Request → Type 0
InOrder [] = Unit {0}
InOrder (r ∷ []) = Unit {0}
InOrder (r ∷ s ∷ h) = (s.time ≤ r.time) × InOrder (s ∷ h)

-- what a request hands to the host, and the latch after it
pub record Acted : Type 0 where
  pub carried : List ControlObject
  pub latch : LatchView

-- what is kept between requests
pub record Remembered : Type 0 where
  pub last : LastRequestView
  pub latch : LatchView

-- with these outputs and this arm time
module _ (outputs : Outputs) (arm : ℕ) where
  abbrev pub controls : ControlFunction → LatchView → Request → Acted
  controls f l r =
      record {
        carried = (control_effect outputs arm l f (sequence_in r) r.time (objects_in r)).carried;
        latch = (control_effect outputs arm l f (sequence_in r) r.time (objects_in r)).latch;
      }

  -- functions 3 to 6 are controls; every other request hands over nothing and empties the latch
  abbrev pub acted_by : ℕ → LatchView → Request → Acted
  acted_by n l r =
      first
      (eqb n 3 ⇒ controls Select l r
      ∷ eqb n 4 ⇒ controls Operate l r
      ∷ eqb n 5 ⇒ controls DirectOperate l r
      ∷ eqb n 6 ⇒ controls DirectOperateNoResponse l r
      ∷ [])
      (record { carried = []; latch = no_select })

  unfoldable pub acted : LatchView → Request → Acted
  acted l r = acted_by (function_in r) l r

  -- a repeat changes nothing; every other request is kept with its answer
  unfoldable pub remembered_after : List Request → Remembered
  remembered_after [] = record { last = nothing; latch = no_select }
  remembered_after (r ∷ h) =
      cond (is_repeat (remembered_after h).last r.bytes) (remembered_after h)
      (record { last = kept r.bytes r.answer; latch = (acted (remembered_after h).latch r).latch })

  -- the request, after this history, is a repeat
  abbrev pub repeated : List Request → Request → Bool
  repeated h r = is_repeat (remembered_after h).last r.bytes

  -- what it hands to the host: of a repeat nothing
  abbrev pub hands_over : List Request → Request → List ControlObject
  hands_over h r = cond (repeated h r) [] (acted (remembered_after h).latch r).carried

  -- what it is answered: of a repeat the same answer again
  abbrev pub answered : List Request → Request → List ℕ
  answered h r = cond (repeated h r) (kept_answer (remembered_after h).last) r.answer

  -- all that a history has handed to the host, in the order asked
  unfoldable pub outcome : List Request → List ControlObject
  outcome [] = []
  outcome (r ∷ h) = outcome h ++ hands_over h r

  -- the history without its repeats
  unfoldable pub new_requests : List Request → List Request
  new_requests [] = []
  new_requests (r ∷ h) = cond (repeated h r) (new_requests h) (r ∷ new_requests h)
