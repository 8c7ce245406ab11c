-- Sending: one segment a call, in document 01's order of refusals.
-- Assumes nothing.
use Rattle.std.specs.Prelude.{ℕ, ◌+◌, ◌≡◌, Bool, cond, List, [], ◌∷◌, length, take, drop, ltb, leb, eqb, Result, Ok, Err}
use Rattle.octets.specs.Bytes.{splice}
use Rattle.laws.specs.First.{first, ◌⇒◌}
use Rattle.laws.specs.Limits.{fragment_max, segment_data_max}
use Rattle.laws.specs.Outcome.{Outcome, accepted, refused}
use Rattle.transport.specs.Segment.{head_of, fin, segment, next_sequence}
use Rattle.transport.specs.declared.Sender.{Sender}
use Rattle.transport.specs.declared.Sending.{Sending}
use Rattle.transport.specs.declared.SentSegment.{SentSegment}
use Rattle.transport.specs.declared.SendRefusal.{SendRefusal}
use Rattle.transport.specs.declared.SendRefusal.TheVariants.{FragmentLength, OutputTooSmall}

-- a sender that has sent nothing ("0 first"): what a restart leaves
abbrev pub nothing_sent : Sender
nothing_sent = record { next = record { 0 = 0 }; at = 0 }

-- a segment that was written: its size, and whether it is the fragment's last
pub record Written : Type 0 where
  pub size : ℕ
  pub last : Bool

-- where in a fragment of n bytes the next segment begins: a place at or past the end begins it anew
abbrev pub from_of : ℕ → ℕ → ℕ
from_of at n = cond (ltb at n) at 0

-- the segment that begins here is the last
abbrev pub last_at : ℕ → ℕ → Bool
last_at at n = leb n (at + segment_data_max)

-- where the one after it begins: after the last, a fragment begins
abbrev pub end_of : ℕ → ℕ → ℕ
end_of at n = cond (last_at at n) 0 (at + segment_data_max)

-- the next segment of the fragment f
unfoldable pub next_segment : Sender → List ℕ → List ℕ
next_segment p f =
    segment (eqb (from_of p.at (length f)) 0) (last_at (from_of p.at (length f)) (length f)) p.next.0 (take segment_data_max (drop (from_of p.at (length f)) f))

unfoldable pub next_sender : Sender → List ℕ → Sender
next_sender p f = record { next = next_sequence p.next; at = end_of (from_of p.at (length f)) (length f) }

-- the segment to write into so many lent bytes. 33, under 250 lent; 16, "a fragment of 0 or over 2,048"
unfoldable pub sending : ℕ → Sender → List ℕ → Outcome (List ℕ)
sending room p f =
    first (
    ltb room (segment_data_max + 1) ⇒ refused 33
    ∷ ltb (length f) 1 ⇒ refused 16
    ∷ ltb fragment_max (length f) ⇒ refused 16
    ∷ [])
    (accepted (next_segment p f))

-- ---- the answer, the sender and the lent bytes after it

abbrev pub written_of : List ℕ → Outcome Written
written_of s = accepted (record { size = length s; last = fin (head_of s) })

abbrev pub answer_sent : Outcome (List ℕ) → Outcome Written
answer_sent (accepted s) = written_of s
answer_sent (refused k) = refused k

abbrev pub sender_after : Sender → List ℕ → Outcome (List ℕ) → Sender
sender_after p f (accepted s) = next_sender p f
sender_after p f (refused k) = p

abbrev pub lent_after_send : List ℕ → Outcome (List ℕ) → List ℕ
lent_after_send d (accepted s) = splice d 0 s
lent_after_send d (refused k) = d

-- the number of each refusal
abbrev pub send_refusal_of : SendRefusal → ℕ
send_refusal_of FragmentLength = 16
send_refusal_of OutputTooSmall = 33

abbrev pub sent_of : Result SentSegment SendRefusal → Outcome Written
sent_of (Ok s) = accepted (record { size = s.size; last = s.last })
sent_of (Err why) = refused (send_refusal_of why)

-- a call that wrote the next segment of f, with this sender and these lent bytes before it, gives r and leaves these lent bytes
pub record SegmentSent (r : Sending) (p : Sender) (f before after : List ℕ) : Type 0 where
  pub answer : sent_of r.answer ≡ answer_sent (sending (length before) p f)
  pub sender : r.sender ≡ sender_after p f (sending (length before) p f)
  pub lent : after ≡ lent_after_send before (sending (length before) p f)
