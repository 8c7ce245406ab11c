-- Receiving: what a segment comes to, in document 01's order of refusals; a segment heard twice (document 02, 103).
-- Assumes nothing.
use Rattle.std.specs.Prelude.{ℕ, ◌+◌, ◌-◌, ◌≡◌, Bool, true, false, cond, not, List, [], ◌∷◌, length, take, drop, ltb, eqb, Result, Ok, Err, Option, Some, None}
use Rattle.octets.specs.Bytes.{splice}
use Rattle.laws.specs.First.{first, ◌⇒◌}
use Rattle.laws.specs.Lists.{same}
use Rattle.laws.specs.Limits.{fragment_max, segment_data_max}
use Rattle.laws.specs.Outcome.{Outcome, accepted, refused}
use Rattle.transport.specs.Segment.{head_of, fin, fir, sequence, data_of, next_sequence, segment}
use Rattle.transport.specs.declared.Assembly.{Assembly}
use Rattle.transport.specs.declared.SegmentRefusal.{SegmentRefusal}
use Rattle.transport.specs.declared.SegmentRefusal.TheVariants.{SegmentLength, OutOfSequence, FragmentTooLong, OutputTooSmall}
use Rattle.transport.specs.declared.Reception.{Reception}

-- nothing begun: what a restart leaves. "A restart keeps only the setup": it empties the assembly and the sender
abbrev pub idle : Assembly
idle = record { begun = false; last = record { 0 = 0 }; last_fir = false; last_len = 0; len = 0 }

-- the last segment taken in, as far as the lent bytes d still have it: its data is what stands there at the end of the bytes so far. A
-- segment with FIN leaves nothing begun, so it had none
abbrev pub last_segment : Assembly → List ℕ → List ℕ
last_segment a d = segment a.last_fir false a.last.0 (drop (a.len - a.last_len) (take a.len d))

-- what becomes of a segment's data: it is stored behind so many bytes of the fragment, or it was heard before
pub data Place : Type 0 where
  behind : ℕ → Place
  ignored : Place

-- without FIR. 22, "nothing begun"; "a segment without FIR whose sequence is that of the last one, and whose every byte equals it, is to be
-- ignored" (103); 22, "sequence not next", which is "the last one plus 1 modulo 64"; 23, "fragment would pass 2,048"
unfoldable pub places : Assembly → List ℕ → List ℕ → Outcome Place
places a d s =
    first (
    not a.begun ⇒ refused 22
    ∷ same s (last_segment a d) ⇒ accepted ignored
    ∷ not (eqb (sequence (head_of s)) (next_sequence a.last).0) ⇒ refused 22
    ∷ ltb fragment_max (a.len + length (data_of s)) ⇒ refused 23
    ∷ [])
    (accepted (behind a.len))

-- where the data of the segment s goes, the bytes d being lent for the fragment. 33, under 2,048 lent; 21, "segment with no data, or over
-- 249"; "FIR starts afresh"
unfoldable pub receiving : List ℕ → Assembly → List ℕ → Outcome Place
receiving d a s =
    first (
    ltb (length d) fragment_max ⇒ refused 33
    ∷ ltb (length s) 2 ⇒ refused 21
    ∷ ltb (segment_data_max + 1) (length s) ⇒ refused 21
    ∷ fir (head_of s) ⇒ accepted (behind 0)
    ∷ [])
    (places a d s)

-- ---- the answer, what is kept, and the lent bytes

-- a segment that was taken: more are to come, or the fragment is complete with so many bytes
pub data Progress : Type 0 where
  more : Progress
  complete : ℕ → Progress

-- n bytes came so far, the last m of them under this transport byte: the answer, and what is kept
abbrev pub progress_of : ℕ → ℕ → Outcome Progress
progress_of h n = accepted (cond (fin h) (complete n) more)

abbrev pub kept_of : ℕ → ℕ → ℕ → Assembly
kept_of h n m =
    cond (fin h) idle (record { begun = true; last = record { 0 = sequence h }; last_fir = fir h; last_len = m; len = n })

abbrev pub answer_received : List ℕ → Outcome Place → Outcome Progress
answer_received s (accepted (behind n)) = progress_of (head_of s) (n + length (data_of s))
answer_received s (accepted ignored) = accepted more
answer_received s (refused k) = refused k

-- 22 and 23: "unfinished fragment forgotten"
abbrev pub forgets : ℕ → Bool
forgets k = cond (eqb k 22) true (eqb k 23)

-- ignored: "the unfinished fragment stays" (103)
abbrev pub assembly_after : Assembly → List ℕ → Outcome Place → Assembly
assembly_after a s (accepted (behind n)) = kept_of (head_of s) (n + length (data_of s)) (length (data_of s))
assembly_after a s (accepted ignored) = a
assembly_after a s (refused k) = cond (forgets k) idle a

abbrev pub lent_after_receive : List ℕ → List ℕ → Outcome Place → List ℕ
lent_after_receive d s (accepted (behind n)) = splice d n (data_of s)
lent_after_receive d s (accepted ignored) = d
lent_after_receive d s (refused k) = d

-- ---- what the answers mean

-- an answer: the fragment goes on, or it is complete with so many bytes; or a refusal
abbrev pub Received : Type 0
Received = Result (Option ℕ) SegmentRefusal

-- the number of each refusal
abbrev pub segment_refusal_of : SegmentRefusal → ℕ
segment_refusal_of SegmentLength = 21
segment_refusal_of OutOfSequence = 22
segment_refusal_of FragmentTooLong = 23
segment_refusal_of OutputTooSmall = 33

abbrev pub received_of : Received → Outcome Progress
received_of (Ok None) = accepted more
received_of (Ok (Some n)) = accepted (complete n)
received_of (Err why) = refused (segment_refusal_of why)

-- a call that took the segment s, with this assembly and these lent bytes before it, gives r and leaves these lent bytes
pub record SegmentReceived (r : Reception) (a : Assembly) (s before after : List ℕ) : Type 0 where
  pub answer : received_of r.answer ≡ answer_received s (receiving before a s)
  pub assembly : r.assembly ≡ assembly_after a s (receiving before a s)
  pub lent : after ≡ lent_after_receive before s (receiving before a s)

-- where a segment's data goes, as the code has it: behind so many bytes, or nowhere
abbrev pub place_of : Result (Option ℕ) SegmentRefusal → Outcome Place
place_of (Ok (Some n)) = accepted (behind n)
place_of (Ok None) = accepted ignored
place_of (Err why) = refused (segment_refusal_of why)
