-- A segment heard twice (document 02, 103), about the calls: the second changes nothing, and a fragment comes whole from a radio that repeats.
-- Assumes nothing.
use Rattle.std.specs.Prelude.{ℕ, ◌-◌, ◌≤◌, ◌≡◌, List, [], ◌∷◌, length, Ok, None}
use Rattle.laws.specs.Limits.{fragment_max}
use Rattle.octets.specs.Bytes.{splice, AreBytes}
use Rattle.transport.specs.Receive.{idle, last_segment, Received, SegmentReceived}
use Rattle.transport.specs.RoundTrip.{Sends, Receives, completes}
use Rattle.transport.specs.declared.Assembly.{Assembly}
use Rattle.transport.specs.declared.Reception.{Reception}
use Rattle.transport.specs.declared.Sender.{Sender}

-- Whatever was kept and lent: after a segment with which the fragment goes on, that segment is the last one, as the assembly and the lent bytes
-- have it. 21 and 33 change neither, so "the last one" is the last segment taken in
abbrev pub LastIsKept : Type 0
LastIsKept =
    (r : Reception) (a : Assembly) (s d d₁ : List ℕ) → AreBytes s → SegmentReceived r a s d d₁ → r.answer ≡ Ok None → last_segment r.assembly d₁ ≡ s

-- Whatever was kept and lent: a segment with which the fragment goes on, heard again at once, gives the same answer and leaves the assembly
-- and the lent bytes as they are. With FIR it starts afresh, with the same bytes; without, it "is to be ignored"
abbrev pub HeardTwice : Type 0
HeardTwice =
    (r r₁ : Reception) (a : Assembly) (s d d₁ d₂ : List ℕ) → AreBytes s
    → SegmentReceived r a s d d₁ → r.answer ≡ Ok None → SegmentReceived r₁ r.assembly s d₁ d₂
    → (r₁ ≡ r) × (d₂ ≡ d₁)

-- The segments of the first list are heard as those of the second: each but the last once, or any number of times more right behind itself
pub data Repeated : List (List ℕ) → List (List ℕ) → Type 0 where
  ends : {s : List ℕ} → Repeated (s ∷ []) (s ∷ [])
  once : {s t : List ℕ} {ss ts : List (List ℕ)} → Repeated (t ∷ ss) ts → Repeated (s ∷ t ∷ ss) (s ∷ ts)
  again : {s t : List ℕ} {ss ts : List (List ℕ)} → Repeated (s ∷ t ∷ ss) (s ∷ ts) → Repeated (s ∷ t ∷ ss) (s ∷ s ∷ ts)

-- what hearing the segments ts of the fragment f comes to, received into the lent bytes d
pub record Heard (f d : List ℕ) (ts : List (List ℕ)) (answers : List Received) (a₁ : Assembly) (d₁ : List ℕ) : Type 0 where
  -- only the last segment completes the fragment, and nothing is kept after it
  pub told : answers ≡ completes (length ts - 1) (length f)
  pub assembly : a₁ ≡ idle
  -- the fragment is in the lent bytes, and the bytes past it stay
  pub lent : d₁ ≡ splice d 0 f

-- A fragment's segments received with any of them but the last repeated give the fragment; whatever was unfinished at the receiver
abbrev pub RepeatedIsReceived : Type 0
RepeatedIsReceived =
    (p p₁ : Sender) (a a₁ : Assembly) (f d d₁ : List ℕ) (ss ts : List (List ℕ)) (answers : List Received)
    → p.at ≡ 0 → Sends f p ss p₁ → Repeated ss ts → fragment_max ≤ length d → Receives a d ts answers a₁ d₁
    → Heard f d ts answers a₁ d₁
