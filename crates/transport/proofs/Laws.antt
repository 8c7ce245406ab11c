-- Laws of receiving and sending one segment: each refusal by its tests, and where the data of a segment goes.
-- Assumes nothing.
use mathlib.Core.Path.{◌≡◌, refl, sym, ap, ap₂, ◌∙◌}
use mathlib.Core.Bool.{Bool, true, false, cond, not}
use Prim.Native.Nat.{ℕ, zero, suc, ◌+◌, ◌-◌, ◌*◌, ◌/◌, ◌%◌, ◌≤◌, ◌<◌, min}
use native.Mathlib.Omega.{arith}
use mathlib.Core.List.{List, [], ◌∷◌}
use lib.ListN.{length, take, drop, set, length-drop, length-take, drop_of_length-le}
use lib.Seq.{take_all, take-nil}
use lib.Dec.{ltb, eqb}
use borrow.Author.Tests.{le-ltb, ltb-true, ltb-false, eq-eqb, ne_eqb}
use Rattle.laws.specs.Lists.{same}
use Rattle.laws.specs.Limits.{segment_data_max, fragment_max}
use Rattle.laws.proofs.Loops.{take_min}
use Rattle.laws.proofs.Parts.{part-is}
use Rattle.laws.proofs.Tests.{passed-no}
use Rattle.laws.proofs.SameLaws.{same-eq}
use Rattle.octets.specs.Bytes.{splice}
use Rattle.octets.proofs.Splice.{splice-cons}
use Rattle.laws.specs.Outcome.{Outcome, accepted, refused}
use Rattle.transport.specs.Segment.{head_of, fin, fir, sequence, data_of, next_sequence, bit_of, transport_header, segment}
use Rattle.transport.specs.Receive.{last_segment, Place, behind, ignored, places, receiving, received_of, answer_received, forgets, assembly_after, lent_after_receive, SegmentReceived}
use Rattle.transport.specs.Send.{from_of, last_at, end_of, next_segment, next_sender, sending, written_of}
use Rattle.transport.specs.declared.Assembly.{Assembly}
use Rattle.transport.specs.declared.Reception.{Reception}
use Rattle.transport.specs.declared.Sender.{Sender}
use Rattle.transport.specs.declared.TransportSequence.{TransportSequence}

-- ---- the transport byte

pub bit_le : (b : Bool) → bit_of b ≤ 1
bit_le true = omega arith
bit_le false = omega arith

bit-one : (b : Bool) → eqb (bit_of b) 1 ≡ b
bit-one true = refl
bit-one false = refl

module _ (first last : Bool) (q : ℕ) where
  -- the parts of a transport byte
  pub fin-header : fin (transport_header first last q) ≡ last
  unfolding transport_header
  fin-header =
      let a : bit_of first ≤ 1 = bit_le first in
      let b : bit_of last ≤ 1 = bit_le last in
      let e : (128 * bit_of last + 64 * bit_of first + q % 64) / 128 % 2 ≡ bit_of last = omega arith in
      ap (λ (k : ℕ). eqb k 1) e ∙ bit-one last

  pub fir-header : fir (transport_header first last q) ≡ first
  unfolding transport_header
  fir-header =
      let a : bit_of first ≤ 1 = bit_le first in
      let b : bit_of last ≤ 1 = bit_le last in
      let e : (128 * bit_of last + 64 * bit_of first + q % 64) / 64 % 2 ≡ bit_of first = omega arith in
      ap (λ (k : ℕ). eqb k 1) e ∙ bit-one first

  pub sequence-header : sequence (transport_header first last q) ≡ q % 64
  unfolding transport_header
  sequence-header =
      let a : bit_of first ≤ 1 = bit_le first in
      let b : bit_of last ≤ 1 = bit_le last in
      omega arith

-- ---- receiving

module _ (d : List ℕ) (a : Assembly) (s : List ℕ) where
  pub got-first : fragment_max ≤ length d → 2 ≤ length s → length s ≤ segment_data_max + 1 → head_of s / 64 % 2 ≡ 1 → receiving d a s ≡ accepted (behind 0)
  unfolding receiving
  got-first h l m e = rw (le-ltb (length d) fragment_max h, le-ltb (length s) 2 l, le-ltb (segment_data_max + 1) (length s) m, eq-eqb (head_of s / 64 % 2) 1 e)

  pub got-next : fragment_max ≤ length d → 2 ≤ length s → length s ≤ segment_data_max + 1 → (head_of s / 64 % 2 ≡ 1 → ⊥) → receiving d a s ≡ places a d s
  unfolding receiving
  got-next h l m e = rw (le-ltb (length d) fragment_max h, le-ltb (length s) 2 l, le-ltb (segment_data_max + 1) (length s) m, ne_eqb (head_of s / 64 % 2) 1 e)

-- the contract from the outcome
pub received-by : (r : Reception) (a : Assembly) (s d d' : List ℕ) (o : Outcome Place) → receiving d a s ≡ o → received_of r.answer ≡ answer_received s o
    → r.assembly ≡ assembly_after a s o → d' ≡ lent_after_receive d s o → SegmentReceived r a s d d'
received-by r a s d d' o e x y z =
    record { answer = x ∙ ap (answer_received s) (sym e); assembly = y ∙ ap (assembly_after a s) (sym e); lent = z ∙ ap (lent_after_receive d s) (sym e) }

module _ (a : Assembly) (d s : List ℕ) where
  -- a segment with the next sequence is not the last one
  next-is-new : sequence (head_of s) ≡ (next_sequence a.last).0 → same s (last_segment a d) ≡ false
  next-is-new e = go (same s (last_segment a d)) refl where
    go : (t : Bool) → same s (last_segment a d) ≡ t → same s (last_segment a d) ≡ false
    go true h =
        let k : sequence (head_of s) ≡ a.last.0 % 64 =
        ap (λ (l : List ℕ). sequence (head_of l)) (same-eq s (last_segment a d) h) ∙ sequence-header a.last_fir false a.last.0 in
        absurd (omega arith)
    go false h = h

  pub place-repeat : a.begun ≡ true → same s (last_segment a d) ≡ true → places a d s ≡ accepted ignored
  unfolding places
  place-repeat b r = rw (b, r)

  pub place-behind : a.begun ≡ true → sequence (head_of s) ≡ (next_sequence a.last).0 → a.len + length (data_of s) ≤ fragment_max → places a d s ≡ accepted (behind a.len)
  unfolding places
  place-behind b e h = rw (b, next-is-new e, eq-eqb (sequence (head_of s)) (next_sequence a.last).0 e, le-ltb fragment_max (a.len + length (data_of s)) h)

  -- data that is stored passes the limit nowhere
  pub place-fits : (n : ℕ) → places a d s ≡ accepted (behind n) → n + length (data_of s) ≤ fragment_max
  unfolding places
  place-fits n e =
      let a1 = passed-no (not a.begun) 22 _ (behind n) e in
      let a2 = stored (same s (last_segment a d)) _ n a1.1 in
      let a3 = passed-no (not (eqb (sequence (head_of s)) (next_sequence a.last).0)) 22 _ (behind n) a2 in
      let a4 = passed-no (ltb fragment_max (a.len + length (data_of s))) 23 _ (behind n) a3.1 in
      let l : a.len + length (data_of s) ≤ fragment_max = ltb-false _ _ a4.0 in
      let k : a.len ≡ n = cc a4.1 in
      omega arith
    where
      stored : (t : Bool) (o : Outcome Place) (n : ℕ) → cond t (accepted ignored) o ≡ accepted (behind n) → o ≡ accepted (behind n)
      stored true o n e = cc
      stored false o n e = e

-- whatever refuses a segment without FIR, the unfinished fragment is forgotten
pub place-forgets : (a : Assembly) (d s : List ℕ) (k : ℕ) → places a d s ≡ refused k → forgets k ≡ true
unfolding places
place-forgets a d s k e = go (not a.begun) (same s (last_segment a d)) (not (eqb (sequence (head_of s)) (next_sequence a.last).0)) (ltb fragment_max (a.len + length (data_of s))) e
  where
    by_22 : ◌≡◌ {A = Outcome Place} (refused 22) (refused k) → forgets k ≡ true
    by_22 e = let z : 22 ≡ k = cc in rw (sym z)

    by-23 : ◌≡◌ {A = Outcome Place} (refused 23) (refused k) → forgets k ≡ true
    by-23 e = let z : 23 ≡ k = cc in rw (sym z)

    go : (b r q l : Bool) → cond b (refused 22) (cond r (accepted ignored) (cond q (refused 22) (cond l (refused 23) (accepted (behind a.len))))) ≡ refused k → forgets k ≡ true
    go true r q l e = by_22 e
    go false true q l e = cc
    go false false true l e = by_22 e
    go false false false true e = by-23 e
    go false false false false e = cc

-- ---- the last segment again

-- a part as the code lends it
pub part_slice : (f t : ℕ) (l : List ℕ) → take (t - f) (drop f l) ≡ drop f (take t l)
part_slice zero t l = let e : t - 0 ≡ t = omega arith in ap (λ (n : ℕ). take n l) e
part_slice (suc f) t [] = take-nil (t - suc f) ∙ sym (ap (drop (suc f)) (take-nil t))
part_slice (suc f) zero (x ∷ xs) = let e : 0 - suc f ≡ 0 = omega arith in ap (λ (n : ℕ). take n (drop f xs)) e
part_slice (suc f) (suc t) (x ∷ xs) = let e : suc t - suc f ≡ t - f = omega arith in ap (λ (n : ℕ). take n (drop f xs)) e ∙ part_slice f t xs

-- its ends as the code has them, inside the lent bytes
pub end_is : (k n f t : ℕ) (d : List ℕ) → t ≡ min n (length d) → f ≡ min k t → take (t - f) (drop f d) ≡ drop k (take n d)
end_is k n f t d et ef =
    part_slice f t d
    ∙ ap (λ (m : ℕ). drop f (take m d)) et
    ∙ ap (drop f) (take_min n d)
    ∙ ap (λ (m : ℕ). drop m (take n d)) (ef ∙ ap (min k) (et ∙ sym (length-take n d)))
    ∙ drop_min k (take n d)
  where
    drop_min : (k : ℕ) (l : List ℕ) → drop (min k (length l)) l ≡ drop k l
    drop_min k l = go (ltb k (length l)) refl where
      go : (b : Bool) → ltb k (length l) ≡ b → drop (min k (length l)) l ≡ drop k l
      go true h = let g : k < length l = ltb-true k (length l) h in let e : min k (length l) ≡ k = omega arith in ap (λ (m : ℕ). drop m l) e
      go false h =
          let g : length l ≤ k = ltb-false k (length l) h in
          let e : min k (length l) ≡ length l = omega arith in
          let h : length l ≤ length l = omega arith in
          ap (λ (m : ℕ). drop m l) e ∙ drop_of_length-le l h ∙ sym (drop_of_length-le l g)

module _ (a : Assembly) (d : List ℕ) where
  -- another transport byte
  pub other-head : (s : List ℕ) → 1 ≤ length s → (head_of s ≡ transport_header a.last_fir false a.last.0 → ⊥) → same s (last_segment a d) ≡ false
  unfolding same
  other-head [] h n = absurd (omega arith)
  other-head (x ∷ xs) h n = rw (ne_eqb x (transport_header a.last_fir false a.last.0) n)

  -- the same transport byte: the data decides
  pub same_head : (s x : List ℕ) → 1 ≤ length s → head_of s ≡ transport_header a.last_fir false a.last.0 → x ≡ drop (a.len - a.last_len) (take a.len d)
      → same (data_of s) x ≡ same s (last_segment a d)
  unfolding same
  same_head [] x h e k = absurd (omega arith)
  same_head (y ∷ ys) x h e k = rw (eq-eqb y (transport_header a.last_fir false a.last.0) e) (ap (same ys) k)

-- `&s[1..]` is the segment's data
pub rest-is : (s : List ℕ) → take (length s - 1) (drop 1 s) ≡ data_of s
rest-is s = take_all (length s - 1) (drop 1 s) (simp length-drop (omega arith))

pub rest-length : (s : List ℕ) → length (data_of s) ≡ length s - 1
rest-length s = length-drop 1 s

-- ---- sending

module _ (room : ℕ) (p : Sender) (f : List ℕ) where
  pub send-next : segment_data_max + 1 ≤ room → 1 ≤ length f → length f ≤ fragment_max → sending room p f ≡ accepted (next_segment p f)
  unfolding sending
  send-next h l m = rw (le-ltb room (segment_data_max + 1) h, le-ltb (length f) 1 l, le-ltb fragment_max (length f) m)

-- the part of the fragment from here, at most 249 bytes
module _ (f : List ℕ) (at e : ℕ) (h : at < length f) (k : e ≡ min (at + segment_data_max) (length f)) where
  segment-is : take (e - at) (drop at f) ≡ take segment_data_max (drop at f)
  segment-is = part-is segment_data_max at e f (omega arith) k

  segment-length : length (take segment_data_max (drop at f)) ≡ e - at
  segment-length = length-take segment_data_max (drop at f) ∙ simp length-drop (omega arith)

-- what is written, and what is kept
module _ (p : Sender) (f : List ℕ) (at : ℕ) where
  pub sender-is : (q : TransportSequence) (x : ℕ) → at ≡ from_of p.at (length f) → q ≡ next_sequence p.next → x ≡ end_of at (length f)
      → ◌≡◌ {A = Sender} (record { next = q; at = x }) (next_sender p f)
  unfolding next_sender
  sender-is q x e eq ex = ap₂ (λ (r : TransportSequence) (y : ℕ). record { next = r; at = y }) eq (ex ∙ ap (λ (n : ℕ). end_of n (length f)) e)

  module _ (e : ℕ) (here : at ≡ from_of p.at (length f)) (h : at < length f) (k : e ≡ min (at + segment_data_max) (length f)) where
    next-is : next_segment p f ≡ segment (eqb at 0) (last_at at (length f)) p.next.0 (take segment_data_max (drop at f))
    unfolding next_segment
    next-is = ap (λ (n : ℕ). segment (eqb n 0) (last_at n (length f)) p.next.0 (take segment_data_max (drop n f))) (sym here)

    pub written_is : written_of (next_segment p f) ≡ accepted (record { size = e - at + 1; last = last_at at (length f) })
    written_is =
        let n : suc (length (take segment_data_max (drop at f))) ≡ e - at + 1 = omega (arith, segment-length f at e h k) in
        ap written_of next-is ∙ ap₂ (λ (m : ℕ) (b : Bool). accepted (record { size = m; last = b })) n (fin-header (eqb at 0) (last_at at (length f)) p.next.0)

    pub splice-is : (d : List ℕ) (x : ℕ) → x ≡ transport_header (eqb at 0) (last_at at (length f)) p.next.0
        → splice (set d 0 x) 1 (take (e - at) (drop at f)) ≡ splice d 0 (next_segment p f)
    splice-is d x ex =
        ap₂ (λ (y : ℕ) (l : List ℕ). splice (set d 0 y) 1 l) ex (segment-is f at e h k)
        ∙ sym (splice-cons d 0 (transport_header (eqb at 0) (last_at at (length f)) p.next.0) (take segment_data_max (drop at f)))
        ∙ ap (splice d 0) (sym next-is)
