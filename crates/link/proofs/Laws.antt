-- Laws of the station: what a checked frame comes to.
-- Assumes nothing.
use mathlib.Core.Path.{◌≡◌, refl, sym, ap, ◌∙◌, subst}
use Prim.Native.Nat.{ℕ, ◌/◌, ◌%◌, ◌≤◌, ◌<◌}
use mathlib.Core.List.{List, [], ◌∷◌}
use lib.Dec.{eqb}
use lib.ListN.{length}
use mathlib.Core.Bool.{Bool, true, false, cond, not}
use Rattle.octets.specs.Bytes.{splice}
use Rattle.laws.specs.First.{first, ◌⇒◌}
use Rattle.laws.specs.Limits.{user_max}
use Rattle.frame.specs.FrameOutcome.{Refusal, by, wrong_block, refusal_number, FrameOutcome, accepted, refused, refused_by, number_of}
use Rattle.frame.specs.Frame.{Parts, decode, checked_of, Whole, user_of, frame_size}
use Rattle.frame.proofs.Laws.{decode-lent, decode-room, length-user}
use Rattle.std.specs.Prelude.{Result, Ok, Err}
use Rattle.frame.specs.declared.Frame.{Frame}
use Rattle.frame.specs.declared.FrameRefusal.{FrameRefusal}
use Rattle.frame.specs.declared.FrameRefusal.TheVariants as F
use Rattle.link.specs.declared.Station.{Station}
use Rattle.link.specs.declared.LineRecord.{LineRecord}
use Rattle.link.specs.declared.Taken.{Taken}
use Rattle.link.specs.declared.Taken.TheVariants.{UserData, Reply}
use Rattle.link.specs.declared.TakeRefusal.{TakeRefusal}
use Rattle.link.specs.declared.TakeRefusal.TheVariants as T
use Rattle.link.specs.Station.{LinkDecision, hands, replies, not_taken, without_data, by_function, addressed, Action, user_data, reply, action_of, takes, station, LinkAnswer, user_bytes, reply_with, link_answer, taken_of, taken_by, after_check, lent_after_take, FrameTaken, blocks_counted, counted_of, reply_control}

module _ (room : ℕ) (st : Station) (s : List ℕ) where
  pub station-lent : room < user_max → station room st s ≡ refused_by 33
  unfolding station
  station-lent h = ap (takes st) (decode-lent room s h)

  -- a frame that was checked
  pub station-is : (r : Result Frame FrameRefusal) → user_max ≤ room → checked_of r s ≡ decode user_max s → station room st s ≡ takes st (checked_of r s)
  unfolding station
  station-is r h e = ap (takes st) (decode-room room s h ∙ sym e)

-- what the answer t promises of the outcome o, and of the lent bytes d before and d' after
abbrev pub Right : Result Taken TakeRefusal → FrameOutcome Action → List ℕ → List ℕ → Type 0
Right t o d d' = (taken_of t ≡ link_answer o) × (d' ≡ lent_after_take d o)

-- user data is handed on: where it is, and what is right once it is copied
abbrev pub Handed : FrameOutcome Action → List ℕ → ℕ → Type 0
Handed o s n = (n ≤ user_max) × ((frame_size n ≤ length s) × (o ≡ accepted (user_data (user_of n s))))

-- what is promised of an answer: user data is there and waits to be copied, and any other answer is right as it is
abbrev pub Promised : Result Taken TakeRefusal → FrameOutcome Action → List ℕ → List ℕ → Type 0
Promised (Ok (UserData n)) o s d = Handed o s n
Promised t o s d = Right t o d d

decided : (v : LinkDecision) (n : ℕ) (s d : List ℕ) → n ≤ user_max → frame_size n ≤ length s → Promised (taken_by v n) (action_of v (user_of n s)) s d
decided hands n s d l w = (l, (w, refl))
decided (replies c) n s d l w = (refl, refl)
decided not_taken n s d l w = (refl, refl)

-- a frame that was checked has the answer of its fields
pub after-check : (st : Station) (r : Result Frame FrameRefusal) (s d : List ℕ) → Whole r s → Promised (after_check st r) (takes st (checked_of r s)) s d
after-check st (Ok f) s d w =
    rw (length-user f.len s w.1) (decided (addressed st f.control f.destination f.source f.len) f.len s d w.0 w.1)
after-check st (Err why) s d w = (refl, refl)

pub handed-right : (n : ℕ) (s d : List ℕ) → frame_size n ≤ length s → Right (Ok (UserData n)) (accepted (user_data (user_of n s))) d (splice d 0 (user_of n s))
handed-right n s d w = (ap (λ (k : ℕ). accepted (user_bytes k)) (sym (length-user n s w)), refl)

-- the contract from the outcome
pub taken-by : (t : Result Taken TakeRefusal) (st : Station) (s d d' : List ℕ) (o : FrameOutcome Action) → station (length d) st s ≡ o → Right t o d d' → FrameTaken t st s d d'
taken-by t st s d d' o e r = record { answer = r.0 ∙ ap link_answer (sym e); lent = r.1 ∙ ap (lent_after_take d) (sym e) }

answer-counted : (l : LineRecord) (o : FrameOutcome Action) → counted_of l (link_answer o) ≡ counted_of l o
answer-counted l (accepted (user_data u)) = refl
answer-counted l (accepted (reply c)) = refl
answer-counted l (refused (by k)) = refl
answer-counted l (refused (wrong_block b)) = refl

-- what is counted of the answer is what is counted of the outcome
pub taken-counted : (l : LineRecord) (t : Result Taken TakeRefusal) (st : Station) (s d d' : List ℕ) → FrameTaken t st s d d' → counted_of l (taken_of t) ≡ counted_of l (station (length d) st s)
taken-counted l t st s d d' e = ap (counted_of l) e.answer ∙ answer-counted l (station (length d) st s)

pub blocks-other : (counts : List ℕ) (t : Result Taken TakeRefusal) → (number_of (taken_of t) ≡ 15 → ⊥) → counts ≡ blocks_counted counts (taken_of t)
blocks-other counts (Ok (UserData n)) h = refl
blocks-other counts (Ok (Reply c)) h = refl
blocks-other counts (Err (T.Frame F.TooShort)) h = refl
blocks-other counts (Err (T.Frame F.Start)) h = refl
blocks-other counts (Err (T.Frame F.HeaderCheck)) h = refl
blocks-other counts (Err (T.Frame F.Length)) h = refl
blocks-other counts (Err (T.Frame (F.BlockCheck b))) h = absurd (h refl)
blocks-other counts (Err (T.Frame F.OutputTooSmall)) h = refl
blocks-other counts (Err T.NotTaken) h = refl

-- ---- what an answer means tells the answer: no two mean the same

refusal-at : Refusal → FrameRefusal
refusal-at (by k) = first (eqb k 11 ⇒ F.TooShort ∷ eqb k 12 ⇒ F.Start ∷ eqb k 13 ⇒ F.HeaderCheck ∷ eqb k 14 ⇒ F.Length ∷ []) F.OutputTooSmall
refusal-at (wrong_block b) = F.BlockCheck b

answer_at : FrameOutcome LinkAnswer → Result Taken TakeRefusal
answer_at (accepted (user_bytes n)) = Ok (UserData n)
answer_at (accepted (reply_with c)) = Ok (Reply c)
answer_at (refused why) = Err (cond (eqb (refusal_number why) 17) T.NotTaken (T.Frame (refusal-at why)))

answer_back : (t : Result Taken TakeRefusal) → answer_at (taken_of t) ≡ t
unfolding answer_at refusal-at
answer_back (Ok (UserData n)) = refl
answer_back (Ok (Reply c)) = refl
answer_back (Err (T.Frame F.TooShort)) = refl
answer_back (Err (T.Frame F.Start)) = refl
answer_back (Err (T.Frame F.HeaderCheck)) = refl
answer_back (Err (T.Frame F.Length)) = refl
answer_back (Err (T.Frame (F.BlockCheck b))) = refl
answer_back (Err (T.Frame F.OutputTooSmall)) = refl
answer_back (Err T.NotTaken) = refl

pub taken-one : (t u : Result Taken TakeRefusal) → taken_of t ≡ taken_of u → t ≡ u
taken-one t u e = sym (answer_back t) ∙ ap answer_at e ∙ answer_back u

-- ---- replies

-- a control byte that the station asks to reply with is one of the three
abbrev Kept : LinkDecision → Type 0
Kept v = (c : ℕ) → v ≡ replies c → reply_control c ≡ c

kept_either : (t : Bool) (v w : LinkDecision) → Kept v → Kept w → Kept (cond t v w)
kept_either true v w p q = p
kept_either false v w p q = q

kept-none : Kept not_taken
kept-none c e = cc

kept-hands : Kept hands
kept-hands c e = cc

kept_same : (k : ℕ) → reply_control k ≡ k → Kept (replies k)
kept_same k h c e = let z : k ≡ c = cc in subst (λ (x : ℕ). reply_control x ≡ x) z h

function-kept : (control n : ℕ) → Kept (by_function control n)
unfolding by_function reply_control
function-kept control n =
    kept_either (eqb (control % 16) 4) _ _ (kept_either (not (eqb (control / 16 % 2) 0)) _ _ kept-none (kept_either (eqb n 0) _ _ kept-none kept-hands))
    (kept_either (eqb (control % 16) 0) _ _ (without-kept 0x00 refl)
    (kept_either (eqb (control % 16) 9) _ _ (without-kept 0x0B refl) (kept_same 0x0F refl)))
  where
    without-kept : (k : ℕ) → reply_control k ≡ k → Kept (without_data (control / 16 % 2) n k)
    without-kept k h = kept_either (not (eqb (control / 16 % 2) 0)) _ _ kept-none (kept_either (not (eqb n 0)) _ _ kept-none (kept_same k h))

addressed-kept : (st : Station) (control destination source n : ℕ) → Kept (addressed st control destination source n)
unfolding addressed
addressed-kept st control destination source n =
    kept_either (not (eqb source st.master)) _ _ kept-none
    (kept_either (not (eqb destination st.own)) _ _ kept-none
    (kept_either (not (eqb (control / 64) 3)) _ _ kept-none (function-kept control n)))

action-kept : (v : LinkDecision) (u : List ℕ) (c : ℕ) → Kept v → action_of v u ≡ accepted (reply c) → reply_control c ≡ c
action-kept hands u c h e = cc
action-kept (replies k) u c h e = h c (let z : k ≡ c = cc in ap replies z)
action-kept not_taken u c h e = cc

-- what the station asks to reply with is sent as it is
pub reply-kept : (room : ℕ) (st : Station) (s : List ℕ) (c : ℕ) → station room st s ≡ accepted (reply c) → reply_control c ≡ c
unfolding station
reply-kept room st s c e = go (decode room s) e
  where
    go : (o : FrameOutcome Parts) → takes st o ≡ accepted (reply c) → reply_control c ≡ c
    go (accepted f) x = action-kept (addressed st f.control f.destination f.source (length f.user)) f.user c (addressed-kept st f.control f.destination f.source (length f.user)) x
    go (refused why) x = cc
