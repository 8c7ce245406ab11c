-- The round trip of segments, about the calls: what is sent in segments and received in order is the fragment.
-- Assumes nothing.
use Rattle.std.specs.Prelude.{ℕ, zero, suc, ◌+◌, ◌-◌, ◌%◌, ◌≤◌, ◌≡◌, true, false, List, [], ◌∷◌, length, take, Ok, Some, None}
use Rattle.laws.specs.Limits.{segment_data_max, fragment_max}
use Rattle.octets.specs.Bytes.{splice}
use Rattle.transport.specs.Segment.{segment_count, segments_of}
use Rattle.transport.specs.Receive.{idle, Received, SegmentReceived}
use Rattle.transport.specs.Send.{SegmentSent}
use Rattle.transport.specs.declared.Assembly.{Assembly}
use Rattle.transport.specs.declared.Reception.{Reception}
use Rattle.transport.specs.declared.Sender.{Sender}
use Rattle.transport.specs.declared.Sending.{Sending}

-- Calls of `send` with the fragment f, each on the sender that the one before left, up to the first that answers that its segment is the
-- last. A segment is the first bytes of those lent, as many as the call answers; each call may lend other bytes
pub data Sends (f : List ℕ) : Sender → List (List ℕ) → Sender → Type 0 where
  last : {p : Sender} {r : Sending} {n : ℕ} {lent written : List ℕ} → SegmentSent r p f lent written → r.answer ≡ Ok (record { size = n; last = true }) →
      Sends f p (take n written ∷ []) r.sender
  more : {p p₁ : Sender} {r : Sending} {n : ℕ} {lent written : List ℕ} {ss : List (List ℕ)} → SegmentSent r p f lent written →
      r.answer ≡ Ok (record { size = n; last = false }) → Sends f r.sender ss p₁ → Sends f p (take n written ∷ ss) p₁

-- Calls of `receive`, one for each segment, each on the assembly and on the lent bytes that the one before left, and their answers
pub data Receives : Assembly → List ℕ → List (List ℕ) → List Received → Assembly → List ℕ → Type 0 where
  none : {a : Assembly} {d : List ℕ} → Receives a d [] [] a d
  next : {a a₁ : Assembly} {d d₁ d₂ s : List ℕ} {ss : List (List ℕ)} {r : Reception} {answers : List Received} → SegmentReceived r a s d d₁ →
      Receives r.assembly d₁ ss answers a₁ d₂ → Receives a d (s ∷ ss) (r.answer ∷ answers) a₁ d₂

-- the answers: k times that the fragment goes on, then that it is complete with n bytes
unfoldable pub completes : ℕ → ℕ → List Received
completes zero n = Ok (Some n) ∷ []
completes (suc k) n = Ok None ∷ completes k n

-- what sending the fragment f from the sender p and receiving it into the lent bytes d comes to
pub record Delivered (p p₁ : Sender) (f d : List ℕ) (ss : List (List ℕ)) (answers : List Received) (a₁ : Assembly) (d₁ : List ℕ) : Type 0 where
  -- exactly f/249 rounded up segments, never above nine, and numbered on from the last sent
  pub segments : ss ≡ segments_of p.next.0 f
  pub count : length ss ≡ segment_count (length f)
  pub most : length ss ≤ 9
  -- the sender stands before a fragment again
  pub sender : p₁ ≡ record { next = record { 0 = (p.next.0 + length ss) % 64 }; at = 0 }
  -- only the last segment completes the fragment, and nothing is kept after it
  pub told : answers ≡ completes (length ss - 1) (length f)
  pub assembly : a₁ ≡ idle
  -- the fragment is in the lent bytes, and the bytes past it stay
  pub lent : d₁ ≡ splice d 0 f

-- From a sender that stands before a fragment, whatever was unfinished at the receiver
abbrev pub SentIsReceived : Type 0
SentIsReceived =
    (p p₁ : Sender) (a a₁ : Assembly) (f d d₁ : List ℕ) (ss : List (List ℕ)) (answers : List Received)
    → p.at ≡ 0 → Sends f p ss p₁ → fragment_max ≤ length d → Receives a d ss answers a₁ d₁
    → Delivered p p₁ f d ss answers a₁ d₁

-- a fragment that is sent whole from the sender p
pub record SentWhole (f : List ℕ) (p : Sender) : Type 0 where
  pub segments : List (List ℕ)
  pub after : Sender
  pub sends : Sends f p segments after

-- The calls come to a last segment: a fragment of 1 to 2,048 bytes is sent whole from any sender, where each call is lent 250 bytes or more
abbrev pub SendsEnd : Type 0
SendsEnd =
    (f : List ℕ) (call : Sender → Sending) (lent written : Sender → List ℕ)
    → 1 ≤ length f → length f ≤ fragment_max → ((p : Sender) → segment_data_max + 1 ≤ length (lent p)) → ((p : Sender) → SegmentSent (call p) p f (lent p) (written p))
    → (p : Sender) → SentWhole f p
