-- The station on its link: which frames it takes, what it answers, and the line's record (document 02, request 110, for blocks).
-- Assumes nothing.
use Rattle.std.specs.Prelude.{ℕ, ◌+◌, ◌/◌, ◌%◌, ◌≡◌, Bool, true, false, cond, not, List, [], ◌∷◌, length, get_or, set, ltb, eqb, Result, Ok, Err}
use Rattle.octets.specs.Bytes.{splice}
use Rattle.laws.specs.First.{first, ◌⇒◌}
use Rattle.laws.specs.Limits.{count_max}
use Rattle.frame.specs.FrameOutcome.{Refusal, by, wrong_block, FrameOutcome, accepted, refused, refused_by, number_of}
use Rattle.frame.specs.Frame.{Parts, parts, decode, refusal_of}
use Rattle.frame.specs.declared.Frame.{Frame}
use Rattle.frame.specs.declared.FrameRefusal.{FrameRefusal}
use Rattle.link.specs.declared.Station.{Station}
use Rattle.link.specs.declared.LineRecord.{LineRecord}
use Rattle.link.specs.declared.Taken.{Taken}
use Rattle.link.specs.declared.Taken.TheVariants.{UserData, Reply}
use Rattle.link.specs.declared.TakeRefusal.{TakeRefusal}
use Rattle.link.specs.declared.TakeRefusal.TheVariants as T

-- ---- which frames the station takes

-- what is decided of a frame: its user data is handed on, or it is answered with this control byte, or the station does not take it
pub data LinkDecision : Type 0 where
  hands : LinkDecision
  replies : ℕ → LinkDecision
  not_taken : LinkDecision

-- "Function 4 with n at least 1 hands on user data"; "another n, or FCV 1, is 17"
abbrev pub with_data : ℕ → ℕ → LinkDecision
with_data fcv n = first (not (eqb fcv 0) ⇒ not_taken ∷ eqb n 0 ⇒ not_taken ∷ []) hands

-- "0 and 9 with n = 0 are answered", with this control byte; "another n, or FCV 1, is 17"
abbrev pub without_data : ℕ → ℕ → ℕ → LinkDecision
without_data fcv n control = first (not (eqb fcv 0) ⇒ not_taken ∷ not (eqb n 0) ⇒ not_taken ∷ []) (replies control)

-- "ACK and LINK_STATUS"; "Any other function is answered NOT_SUPPORTED. These reply control bytes are 00, 0B, 0F"
unfoldable pub by_function : ℕ → ℕ → LinkDecision
by_function control n =
    first (
    eqb (control % 16) 4 ⇒ with_data (control / 16 % 2) n
    ∷ eqb (control % 16) 0 ⇒ without_data (control / 16 % 2) n 0x00
    ∷ eqb (control % 16) 9 ⇒ without_data (control / 16 % 2) n 0x0B
    ∷ [])
    (replies 0x0F)

-- "The station takes frames from its master to itself with DIR and PRM both 1": DIR is 80, PRM 40. Any two numbers are a station's
-- addresses here; that they are at most 65,519 and differ is the setup's to keep (refusal 5)
unfoldable pub addressed : Station → ℕ → ℕ → ℕ → ℕ → LinkDecision
addressed st control destination source n =
    first (
    not (eqb source st.master) ⇒ not_taken
    ∷ not (eqb destination st.own) ⇒ not_taken
    ∷ not (eqb (control / 64) 3) ⇒ not_taken
    ∷ [])
    (by_function control n)

-- what a frame comes to: user data, or the control byte of a reply
pub data Action : Type 0 where
  user_data : List ℕ → Action
  reply : ℕ → Action

abbrev pub action_of : LinkDecision → List ℕ → FrameOutcome Action
action_of hands u = accepted (user_data u)
action_of (replies c) u = accepted (reply c)
action_of not_taken u = refused_by 17

abbrev pub takes : Station → FrameOutcome Parts → FrameOutcome Action
takes st (accepted f) = action_of (addressed st f.control f.destination f.source (length f.user)) f.user
takes st (refused why) = refused why

-- the frame at the front of the bytes, so many bytes being lent
unfoldable pub station : ℕ → Station → List ℕ → FrameOutcome Action
station room st s = takes st (decode room s)

-- only user data changes the lent bytes
abbrev pub lent_after_take : List ℕ → FrameOutcome Action → List ℕ
lent_after_take d (accepted (user_data u)) = splice d 0 u
lent_after_take d (accepted (reply c)) = d
lent_after_take d (refused why) = d

-- ---- what the answers mean

-- what an answer tells: how many bytes of user data there are, or the control byte of the reply
pub data LinkAnswer : Type 0 where
  user_bytes : ℕ → LinkAnswer
  reply_with : ℕ → LinkAnswer

abbrev pub link_answer : FrameOutcome Action → FrameOutcome LinkAnswer
link_answer (accepted (user_data u)) = accepted (user_bytes (length u))
link_answer (accepted (reply c)) = accepted (reply_with c)
link_answer (refused why) = refused why

-- why a frame is not taken: by the refusals of reading a frame, and by 17
abbrev pub take_refusal_of : TakeRefusal → Refusal
take_refusal_of (T.Frame why) = refusal_of why
take_refusal_of T.NotTaken = by 17

abbrev pub taken_of : Result Taken TakeRefusal → FrameOutcome LinkAnswer
taken_of (Ok (UserData n)) = accepted (user_bytes n)
taken_of (Ok (Reply c)) = accepted (reply_with c)
taken_of (Err why) = refused (take_refusal_of why)

-- a call that took the frame at the front of the bytes s, with these lent bytes before and after it, answers t
pub record FrameTaken (t : Result Taken TakeRefusal) (st : Station) (s before after : List ℕ) : Type 0 where
  pub answer : taken_of t ≡ link_answer (station (length before) st s)
  pub lent : after ≡ lent_after_take before (station (length before) st s)

-- the answer for a frame of n user bytes by what is decided of it, and for one that was checked
abbrev pub taken_by : LinkDecision → ℕ → Result Taken TakeRefusal
taken_by hands n = Ok (UserData n)
taken_by (replies c) n = Ok (Reply c)
taken_by not_taken n = Err T.NotTaken

abbrev pub after_check : Station → Result Frame FrameRefusal → Result Taken TakeRefusal
after_check st (Ok f) = taken_by (addressed st f.control f.destination f.source f.len) f.len
after_check st (Err why) = Err (T.Frame why)

-- ---- the line's record

-- a count stops at 65,535
abbrev pub count_if : Bool → ℕ → ℕ
count_if true n = cond (ltb n count_max) (n + 1) n
count_if false n = n

-- one more for this block; each count stops for itself
abbrev pub block_counted : List ℕ → ℕ → List ℕ
block_counted counts b = set counts b (count_if true (get_or counts b 0))

-- refusal 15 is counted by the block that it carries: "the line record keeps a count for each"
abbrev pub blocks_counted : {A : Type 0} → List ℕ → FrameOutcome A → List ℕ
blocks_counted counts (accepted a) = counts
blocks_counted counts (refused (by k)) = counts
blocks_counted counts (refused (wrong_block b)) = block_counted counts b

-- accepted frames, and refusals 11 to 15 and 17; 15 also by its block
abbrev pub counted_of : {A : Type 0} → LineRecord → FrameOutcome A → LineRecord
counted_of l o =
    record {
      accepted = count_if (eqb (number_of o) 0) l.accepted;
      short = count_if (eqb (number_of o) 11) l.short;
      start = count_if (eqb (number_of o) 12) l.start;
      header_check = count_if (eqb (number_of o) 13) l.header_check;
      length = count_if (eqb (number_of o) 14) l.length;
      block_check = count_if (eqb (number_of o) 15) l.block_check;
      not_taken = count_if (eqb (number_of o) 17) l.not_taken;
      blocks = blocks_counted l.blocks o;
    }

-- a call that took a frame and counted it in the line record: l before it, and l₁ after
pub record FrameCounted (t : Result Taken TakeRefusal) (l l₁ : LineRecord) (st : Station) (s before after : List ℕ) : Type 0 where
  pub taken : FrameTaken t st s before after
  pub line : l₁ ≡ counted_of l (station (length before) st s)

-- ---- writing

-- "These reply control bytes are 00, 0B, 0F": ACK and LINK_STATUS are themselves, and any other number is NOT_SUPPORTED
unfoldable pub reply_control : ℕ → ℕ
reply_control c = first (eqb c 0x00 ⇒ 0x00 ∷ eqb c 0x0B ⇒ 0x0B ∷ []) 0x0F

-- a frame from the station to its master; "outgoing data uses 44"
abbrev pub to_master : Station → ℕ → List ℕ → Parts
to_master st control u = parts control st.master st.own u
