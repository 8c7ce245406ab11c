-- A fragment's segments: how many, each of them, and all of them joined; the sender's calls write them, and the receiver gives back the fragment.
-- Assumes nothing.
use mathlib.Core.Path.{◌≡◌, refl, sym, ap, ap₂, ◌∙◌}
use mathlib.Core.Bool.{Bool, true, false, cond}
use Prim.Native.Nat.{ℕ, zero, suc, ◌+◌, ◌-◌, ◌*◌, ◌%◌, ◌≤◌, ◌<◌}
use native.Mathlib.Nat.{zero-add}
use native.Mathlib.Omega.{arith}
use mathlib.Core.List.{List, [], ◌∷◌, ◌++◌, map}
use lib.ListN.{length, get_or, take, drop, length-take, length-drop, take-append-drop}
use lib.Seq.{take_all, drop-drop}
use lib.Dec.{ltb, eqb, eqb-suc-zero, eqb-suc-suc}
use borrow.Author.Tests.{lt-ltb, ltb-false, le-leb, lt-leb, leb-true, leb-false, ne_eqb, eqb-false, eqb-true}
use Rattle.laws.specs.Limits.{segment_data_max, fragment_max}
use Rattle.laws.proofs.Tests.{cond_same}
use Rattle.octets.specs.Bytes.{splice}
use Rattle.octets.proofs.Splice.{splice-append, length-splice, stored-splice}
use Rattle.laws.specs.Outcome.{Outcome, accepted, refused}
use Rattle.transport.specs.Segment.{head_of, fin, fir, sequence, data_of, bit_of, transport_header, segment, segment_count, cut, segments_of}
use Rattle.transport.specs.Receive.{Received, idle, behind, receiving, Progress, more, complete, answer_received, assembly_after, lent_after_receive, received_of}
use Rattle.transport.specs.Send.{Written, from_of, last_at, end_of, next_segment, next_sender, sending, written_of, answer_sent, sender_after, lent_after_send, sent_of, SegmentSent}
use Rattle.transport.specs.RoundTrip.{Sends, Receives, none, next, completes, SentIsReceived, SentWhole, SendsEnd}
use Rattle.transport.specs.RoundTrip as Trip
use Rattle.transport.specs.declared.Assembly.{Assembly}
use Rattle.std.specs.Prelude.{Result, Ok, Err, Some, None}
use Rattle.transport.specs.declared.Sender.{Sender}
use Rattle.transport.specs.declared.Sending.{Sending}
use Rattle.transport.specs.declared.SentSegment.{SentSegment}
use Rattle.transport.specs.declared.SendRefusal.{SendRefusal}
use Rattle.transport.proofs.Laws.{got-first, got-next, place-behind, send-next, fin-header, fir-header, sequence-header}

-- ---- the segments

pub length_cut : (k : ℕ) (first : Bool) (q : ℕ) (u : List ℕ) → length (cut k first q u) ≡ k
unfolding cut
length_cut zero first q u = refl
length_cut (suc k) first q u = ap suc (length_cut k false ((q + 1) % 64) (drop segment_data_max u))

-- exactly f/249 rounded up, never above nine
pub count-is : (q : ℕ) (f : List ℕ) → length f ≤ fragment_max → (length (segments_of q f) ≡ segment_count (length f)) × (segment_count (length f) ≤ 9)
count-is q f h = (length_cut (segment_count (length f)) true q f, omega arith)

header-mod : (first last : Bool) (q r : ℕ) → q % 64 ≡ r % 64 → transport_header first last q ≡ transport_header first last r
unfolding transport_header
header-mod first last q r e = ap (λ (k : ℕ). 128 * bit_of last + 64 * bit_of first + k) e

-- the segment at i: FIR at the first only, FIN at the last only, numbered on, and the bytes from 249 * i
pub cut_at : (k : ℕ) (first : Bool) (q : ℕ) (u : List ℕ) (i : ℕ) → i < k
    → get_or (cut k first q u) i [] ≡ segment (cond (eqb i 0) first false) (eqb k (suc i)) (q + i) (take segment_data_max (drop (segment_data_max * i) u))
unfolding cut
cut_at zero first q u i h = absurd (omega arith)
cut_at (suc k) first q u zero h =
    let e : q % 64 ≡ (q + 0) % 64 = omega arith in
    ap (λ (x : ℕ). x ∷ take segment_data_max u) (header-mod first (eqb k 0) q (q + 0) e ∙ ap (λ (b : Bool). transport_header first b (q + 0)) (sym (eqb-suc-suc k 0)))
cut_at (suc k) first q u (suc i) h =
    let e : ((q + 1) % 64 + i) % 64 ≡ (q + suc i) % 64 = omega arith in
    let n : segment_data_max + segment_data_max * i ≡ segment_data_max * suc i = omega arith in
    let f : cond (eqb i 0) false false ≡ cond (eqb (suc i) 0) first false = cond_same (eqb i 0) false ∙ sym (ap (λ (b : Bool). cond b first false) (eqb-suc-zero i)) in
    cut_at k false ((q + 1) % 64) (drop segment_data_max u) i (omega arith)
    ∙ ap₂ (λ (x : ℕ) (l : List ℕ). x ∷ take segment_data_max l)
    (ap₂ (λ (b t : Bool). transport_header b t ((q + 1) % 64 + i)) f (sym (eqb-suc-suc k (suc i))) ∙ header-mod (cond (eqb (suc i) 0) first false) (eqb (suc k) (suc (suc i))) ((q + 1) % 64 + i) (q + suc i) e)
    (drop-drop (segment_data_max * i) segment_data_max u ∙ ap (λ (m : ℕ). drop m u) n)

-- the data of all of them, one after the other
unfoldable pub joined : List (List ℕ) → List ℕ
joined [] = []
joined (s ∷ ss) = data_of s ++ joined ss

pub joined-cut : (k : ℕ) (first : Bool) (q : ℕ) (u : List ℕ) → length u ≤ segment_data_max * k → joined (cut k first q u) ≡ u
unfolding cut joined
joined-cut zero first q [] h = refl
joined-cut zero first q (x ∷ u) h = absurd (omega arith)
joined-cut (suc k) first q u h =
    ap (λ (l : List ℕ). take segment_data_max u ++ l) (joined-cut k false ((q + 1) % 64) (drop segment_data_max u) (simp length-drop (omega arith))) ∙ take-append-drop segment_data_max u

pub joined_is : (q : ℕ) (f : List ℕ) → joined (segments_of q f) ≡ f
joined_is q f = joined-cut (segment_count (length f)) true q f (omega arith)

-- all are full but perhaps the last, which has what is left
pub full : (q : ℕ) (f : List ℕ) (i : ℕ) → suc i < segment_count (length f) → length (get_or (segments_of q f) i []) ≡ segment_data_max + 1
full q f i h =
    let n : suc (length (take segment_data_max (drop (segment_data_max * i) f))) ≡ segment_data_max + 1 = simp (length-take, length-drop) (omega arith) in
    ap length (cut_at (segment_count (length f)) true q f i (omega arith)) ∙ n

pub last-size : (q : ℕ) (f : List ℕ) → 0 < length f
    → length (get_or (segments_of q f) (segment_count (length f) - 1) []) ≡ length f - segment_data_max * (segment_count (length f) - 1) + 1
last-size q f h =
    let i : ℕ = segment_count (length f) - 1 in
    let n : suc (length (take segment_data_max (drop (segment_data_max * i) f))) ≡ length f - segment_data_max * i + 1 = simp (length-take, length-drop) (omega arith) in
    ap length (cut_at (segment_count (length f)) true q f i (omega arith)) ∙ n

-- ---- sending them

-- so many calls in order: the segments that they write, and the sender after them
pub record Calls : Type 0 where
  pub written : List (List ℕ)
  pub sender : Sender

abbrev pub wrote : List ℕ → Calls → Calls
wrote s r = record { written = s ∷ r.written; sender = r.sender }

unfoldable pub calls : ℕ → Sender → List ℕ → Calls
calls zero p f = record { written = []; sender = p }
calls (suc k) p f = wrote (next_segment p f) (calls k (next_sender p f) f)

abbrev pub sender : ℕ → ℕ → Sender
sender q at = record { next = record { 0 = q }; at = at }

abbrev pub called : List (List ℕ) → ℕ → Calls
called ss q = record { written = ss; sender = sender q 0 }

module _ (q at : ℕ) (f : List ℕ) (h : at < length f) where
  from_is : from_of at (length f) ≡ at
  from_is = simp (lt-ltb at (length f) h)

  segment-is : next_segment (sender q at) f ≡ segment (eqb at 0) (last_at at (length f)) q (take segment_data_max (drop at f))
  unfolding next_segment
  segment-is = ap (λ (n : ℕ). segment (eqb n 0) (last_at n (length f)) q (take segment_data_max (drop n f))) from_is

  sender-next : next_sender (sender q at) f ≡ sender ((q + 1) % 64) (end_of at (length f))
  unfolding next_sender
  sender-next = ap (λ (n : ℕ). sender ((q + 1) % 64) (end_of n (length f))) from_is

pub calls-cut : (k q at : ℕ) (f : List ℕ) → at < length f → length f ≤ at + segment_data_max * suc k → at + segment_data_max * k < length f
    → calls (suc k) (sender q at) f ≡ called (cut (suc k) (eqb at 0) q (drop at f)) ((q + suc k) % 64)
unfolding calls cut
calls-cut zero q at f h l g =
    let last : last_at at (length f) ≡ true = le-leb (length f) (at + segment_data_max) (omega arith) in
    rw (segment-is q at f h, sender-next q at f h, last)
calls-cut (suc k) q at f h l g =
    let last : last_at at (length f) ≡ false = lt-leb (length f) (at + segment_data_max) (omega arith) in
    let first : eqb (at + segment_data_max) 0 ≡ false = ne_eqb (at + segment_data_max) 0 (λ e. omega arith) in
    let n : ((q + 1) % 64 + suc k) % 64 ≡ (q + suc (suc k)) % 64 = omega arith in
    let ih = calls-cut k ((q + 1) % 64) (at + segment_data_max) f (omega arith) (omega arith) (omega arith) in
    rw (segment-is q at f h, sender-next q at f h, last, eqb-suc-zero k)
    (ap (wrote (segment (eqb at 0) false q (take segment_data_max (drop at f)))) ih
    ∙ ap₂ (λ (l : List (List ℕ)) (m : ℕ). called (segment (eqb at 0) false q (take segment_data_max (drop at f)) ∷ l) m)
    (rw (first, drop-drop segment_data_max at f) refl) n)

-- as many calls as segments write exactly the segments, and the next fragment is numbered on
pub calls-whole : (q : ℕ) (f : List ℕ) → 0 < length f
    → calls (segment_count (length f)) (sender q 0) f ≡ called (segments_of q f) ((q + segment_count (length f)) % 64)
calls-whole q f h =
    let k : ℕ = segment_count (length f) - 1 in
    let e : segment_count (length f) ≡ suc k = omega arith in
    ap (λ (m : ℕ). calls m (sender q 0) f) e
    ∙ calls-cut k q 0 f h (omega arith) (omega arith)
    ∙ ap (λ (m : ℕ). called (cut m true q f) ((q + m) % 64)) (sym e)

-- ---- receiving them

-- several segments in order
pub record Run : Type 0 where
  pub answers : List (Outcome Progress)
  pub assembly : Assembly
  pub lent : List ℕ

abbrev pub answered : Outcome Progress → Run → Run
answered o r = record { answers = o ∷ r.answers; assembly = r.assembly; lent = r.lent }

unfoldable pub receive_all : Assembly → List ℕ → List (List ℕ) → Run
receive_all a d [] = record { answers = []; assembly = a; lent = d }
receive_all a d (s ∷ ss) =
    answered (answer_received s (receiving d a s))
    (receive_all (assembly_after a s (receiving d a s)) (lent_after_receive d s (receiving d a s)) ss)

-- k times more to come, then a complete fragment of n bytes
unfoldable pub goes : ℕ → ℕ → List (Outcome Progress)
goes zero n = accepted (complete n) ∷ []
goes (suc k) n = accepted more ∷ goes k n

abbrev pub ended : ℕ → ℕ → List ℕ → Run
ended k n d = record { answers = goes k n; assembly = idle; lent = d }

-- without FIR and in sequence, behind what came
follows : (a : Assembly) (d v : List ℕ) (q r at : ℕ) (last : Bool) → fragment_max ≤ length d → 0 < length v → length v ≤ segment_data_max → at + length v ≤ fragment_max
    → a.begun ≡ true → a.len ≡ at → r % 64 ≡ (a.last.0 + 1) % 64 → receiving d a (segment false last r v) ≡ accepted (behind at)
follows a d v q r at last room some full fits b l e =
    let s : List ℕ = segment false last r v in
    got-next d a s room (omega arith) (omega arith) (eqb-false _ _ (fir-header false last r))
    ∙ place-behind a d s b (sequence-header false last r ∙ e) (omega arith)
    ∙ ap (λ (n : ℕ). accepted (behind n)) l

pub feeds : (k : ℕ) (first : Bool) (q at : ℕ) (a : Assembly) (d u : List ℕ) → receiving d a (segment first (eqb k 0) q (take segment_data_max u)) ≡ accepted (behind at)
    → fragment_max ≤ length d → at + length u ≤ fragment_max → length u ≤ segment_data_max * suc k → segment_data_max * k < length u
    → receive_all a d (cut (suc k) first q u) ≡ ended k (at + length u) (splice d at u)
unfolding receive_all cut goes
feeds zero first q at a d u e room fits l g = rw (e, fin-header first true q, take_all segment_data_max u (omega arith))
feeds (suc k) first q at a d u e room fits l g =
    let v : List ℕ = take segment_data_max u in
    let w : List ℕ = drop segment_data_max u in
    let n : length v ≡ segment_data_max = length-take segment_data_max u ∙ omega arith in
    let m : length w ≡ length u - segment_data_max = length-drop segment_data_max u in
    let h : ℕ = transport_header first false q in
    let a' : Assembly = record { begun = true; last = record { 0 = sequence h }; last_fir = fir h; last_len = length v; len = at + length v } in
    let d' : List ℕ = splice d at v in
    let room' : fragment_max ≤ length d' = omega (arith, length-splice d at v) in
    let r : ((q + 1) % 64) % 64 ≡ (sequence (transport_header first false q) + 1) % 64 = omega (arith, sequence-header first false q) in
    let e' = follows a' d' (take segment_data_max w) q ((q + 1) % 64) (at + length v) (eqb k 0) room' (simp length-take (omega arith)) (simp length-take (omega arith)) (simp length-take (omega arith)) refl refl r in
    let ih = feeds k false ((q + 1) % 64) (at + length v) a' d' w e' room' (omega arith) (omega arith) (omega arith) in
    let all : at + length v + length w ≡ at + length u = omega arith in
    rw (e, eqb-suc-zero k, fin-header first false q)
    (ap (answered (accepted more)) ih
    ∙ ap₂ (λ (x : ℕ) (y : List ℕ). answered (accepted more) (ended k x y)) all (sym (splice-append d at v w) ∙ ap (splice d at) (take-append-drop segment_data_max u)))

-- the round trip: whatever was unfinished before, a fragment's segments taken in order give back the fragment, and nothing else of the lent bytes changes
pub round_trip : (a : Assembly) (d f : List ℕ) (q : ℕ) → fragment_max ≤ length d → 0 < length f → length f ≤ fragment_max
    → receive_all a d (segments_of q f) ≡ ended (segment_count (length f) - 1) (length f) (splice d 0 f)
round_trip a d f q room some fits =
    let k : ℕ = segment_count (length f) - 1 in
    let e : segment_count (length f) ≡ suc k = omega arith in
    let s : List ℕ = segment true (eqb k 0) q (take segment_data_max f) in
    let n : length s ≤ segment_data_max + 1 = simp length-take (omega arith) in
    let m : 2 ≤ length s = simp length-take (omega arith) in
    let t : receiving d a s ≡ accepted (behind 0) = got-first d a s room m n (eqb-true _ _ (fir-header true (eqb k 0) q)) in
    ap (λ (j : ℕ). receive_all a d (cut j true q f)) e
    ∙ feeds k true q 0 a d f t room (omega arith) (omega arith) (omega arith)
    ∙ ap (λ (j : ℕ). ended k j (splice d 0 f)) (zero-add (length f))

-- ---- the same about the calls

sent-tests : (a b c : Bool) (x : List ℕ) (y : Written)
    → accepted y ≡ answer_sent (cond a (refused 33) (cond b (refused 16) (cond c (refused 16) (accepted x)))) → (a ≡ false) × (b ≡ false) × (c ≡ false)
sent-tests true b c x y e = (cc, cc, cc)
sent-tests false true c x y e = (cc, cc, cc)
sent-tests false false true x y e = (cc, cc, cc)
sent-tests false false false x y e = (refl, refl, refl)

-- what was sent had room, and a fragment of 1 to 2,048 bytes
sent-fits : (room : ℕ) (p : Sender) (f : List ℕ) (y : Written) → accepted y ≡ answer_sent (sending room p f)
    → (segment_data_max + 1 ≤ room) × (1 ≤ length f) × (length f ≤ fragment_max)
unfolding sending
sent-fits room p f y e =
    let t = sent-tests (ltb room (segment_data_max + 1)) (ltb (length f) 1) (ltb fragment_max (length f)) (next_segment p f) y e in
    (ltb-false _ _ t.0, ltb-false _ _ t.1, ltb-false _ _ t.2)

segment-most : (p : Sender) (f : List ℕ) → length (next_segment p f) ≤ segment_data_max + 1
unfolding next_segment
segment-most p f = simp length-take (omega arith)

-- one call of `send` that was accepted
record Step (p p₁ : Sender) (f s : List ℕ) (last : Bool) : Type 0 where
  some : 1 ≤ length f
  fits : length f ≤ fragment_max
  segment-sent : s ≡ next_segment p f
  sender-after : p₁ ≡ next_sender p f
  ends : fin (head_of (next_segment p f)) ≡ last

step_of : {p : Sender} {r : Sending} {f lent written : List ℕ} (n : ℕ) (last : Bool) → SegmentSent r p f lent written → r.answer ≡ Ok (record { size = n; last = last })
    → Step p r.sender f (take n written) last
step_of {p} {r} {f} {lent} {written} n last sent is =
    let said : accepted (record { size = n; last = last }) ≡ answer_sent (sending (length lent) p f) = ap sent_of (sym is) ∙ sent.answer in
    let t = sent-fits (length lent) p f (record { size = n; last = last }) said in
    let o = send-next (length lent) p f t.0 t.1 t.2 in
    let y : accepted (record { size = n; last = last }) ≡ written_of (next_segment p f) = said ∙ ap answer_sent o in
    let z = written-eq _ _ y in
    let l : written ≡ splice lent 0 (next_segment p f) = sent.lent ∙ ap (lent_after_send lent) o in
    record {
      some = t.1;
      fits = t.2;
      segment-sent = rw (ap (λ (w : Written). w.size) z, l) (stored-splice lent 0 (next_segment p f) (omega (arith, segment-most p f)));
      sender-after = sent.sender ∙ ap (sender_after p f) o;
      ends = sym (ap (λ (w : Written). w.last) z);
    }
  where
    written-eq : (x y : Written) → ◌≡◌ {A = Outcome Written} (accepted x) (accepted y) → x ≡ y
    written-eq x y e = cc

-- a sender inside the fragment: where its segment begins, and whether it is the last
module _ (p : Sender) (f : List ℕ) (h : p.at < length f) where
  ends_at : fin (head_of (next_segment p f)) ≡ last_at p.at (length f)
  ends_at = ap (λ (s : List ℕ). fin (head_of s)) (segment-is p.next.0 p.at f h) ∙ fin-header (eqb p.at 0) (last_at p.at (length f)) p.next.0

  after-at : (next_sender p f).at ≡ end_of p.at (length f)
  after-at = ap (λ (x : Sender). x.at) (sender-next p.next.0 p.at f h)

pub sends-some : {f : List ℕ} {p p₁ : Sender} {ss : List (List ℕ)} → Sends f p ss p₁ → (1 ≤ length f) × (length f ≤ fragment_max)
sends-some (Trip.last {n = n} sent is) = let t = step_of n true sent is in (t.some, t.fits)
sends-some (Trip.more {n = n} sent is rest) = let t = step_of n false sent is in (t.some, t.fits)

-- the calls up to the last segment are as many as segments are left, and write them
sends-are : {f : List ℕ} {p p₁ : Sender} {ss : List (List ℕ)} → Sends f p ss p₁ → p.at < length f
    → (calls (length ss) p f ≡ record { written = ss; sender = p₁ }) × (length ss ≡ segment_count (length f - p.at))
unfolding calls
sends-are {f} {p} (Trip.last {n = n} sent is) h =
    let t = step_of n true sent is in
    let e : length f ≤ p.at + segment_data_max = leb-true _ _ (sym (ends_at p f h) ∙ t.ends) in
    (rw (t.segment-sent, t.sender-after) refl, omega arith)
sends-are {f} {p} (Trip.more {p₁ = p₁} {r = r} {n = n} {ss = ss} sent is rest) h =
    let t = step_of n false sent is in
    let l : last_at p.at (length f) ≡ false = sym (ends_at p f h) ∙ t.ends in
    let e : p.at + segment_data_max < length f = leb-false _ _ l in
    let k : r.sender.at ≡ p.at + segment_data_max = ap (λ (x : Sender). x.at) t.sender-after ∙ after-at p f h ∙ ap (λ (b : Bool). cond b 0 (p.at + segment_data_max)) l in
    let ih = sends-are rest (omega arith) in (
      rw (sym t.segment-sent, sym t.sender-after) (ap (wrote (take n _)) ih.0),
      omega (arith, ih.1),
    )

-- the calls of `receive` are the run
pub receives-are : {a a₁ : Assembly} {d d₁ : List ℕ} {ss : List (List ℕ)} {answers : List Received} → Receives a d ss answers a₁ d₁
    → receive_all a d ss ≡ record { answers = map received_of answers; assembly = a₁; lent = d₁ }
unfolding receive_all
receives-are none = refl
receives-are (next {r = r} got rest) =
    rw (sym got.answer, sym got.assembly, sym got.lent) (ap (answered (received_of r.answer)) (receives-are rest))

pub more-is : (x : Received) → received_of x ≡ accepted more → x ≡ Ok None
more-is (Ok None) e = refl
more-is (Ok (Some n)) e = cc
more-is (Err why) e = cc

complete-is : (x : Received) (n : ℕ) → received_of x ≡ accepted (complete n) → x ≡ Ok (Some n)
complete-is (Ok None) n e = cc
complete-is (Ok (Some m)) n e = cc
complete-is (Err why) n e = cc

pub completes-is : (k n : ℕ) (answers : List Received) → map received_of answers ≡ goes k n → answers ≡ completes k n
unfolding goes completes
completes-is zero n [] e = cc
completes-is zero n (x ∷ []) e = ap (λ (y : Received). y ∷ []) (complete-is x n cc)
completes-is zero n (x ∷ y ∷ ys) e = cc
completes-is (suc k) n [] e = cc
completes-is (suc k) n (x ∷ xs) e = ap₂ (λ (y : Received) (ys : List Received). y ∷ ys) (more-is x cc) (completes-is k n xs cc)

-- the calls up to the last segment write the fragment's segments
pub sends-whole : (p p₁ : Sender) (f : List ℕ) (ss : List (List ℕ)) → p.at ≡ 0 → Sends f p ss p₁
    → (length ss ≡ segment_count (length f)) × (record { written = ss; sender = p₁ } ≡ called (segments_of p.next.0 f) ((p.next.0 + segment_count (length f)) % 64))
sends-whole p p₁ f ss start sends =
    let q : ℕ = p.next.0 in
    let t = sends-some sends in
    let w = sends-are sends (omega arith) in
    let whole : length f - p.at ≡ length f = omega arith in
    let n : length ss ≡ segment_count (length f) = w.1 ∙ ap segment_count whole in
    let here : p ≡ sender q 0 = ap (sender q) start in
    (n, sym w.0 ∙ ap₂ (λ (k : ℕ) (x : Sender). calls k x f) n here ∙ calls-whole q f t.0)

pub sent-is-received : SentIsReceived
sent-is-received p p₁ a a₁ f d d₁ ss answers start sends room receives =
    let q : ℕ = p.next.0 in
    let t = sends-some sends in
    let w = sends-whole p p₁ f ss start sends in
    let n : length ss ≡ segment_count (length f) = w.0 in
    let z : ss ≡ segments_of q f = ap (λ (x : Calls). x.written) w.1 in
    let r = sym (receives-are receives) ∙ ap (receive_all a d) z ∙ round_trip a d f q room t.0 t.1 in
    record {
      segments = z;
      count = n;
      most = omega arith;
      sender = rw n (ap (λ (x : Calls). x.sender) w.1);
      told = rw n (completes-is (segment_count (length f) - 1) (length f) answers (ap (λ (x : Run). x.answers) r));
      assembly = ap (λ (x : Run). x.assembly) r;
      lent = ap (λ (x : Run). x.lent) r;
    }

-- ---- the calls come to a last segment

segment-told : (x : Result SentSegment SendRefusal) (y : Written) → sent_of x ≡ accepted y → x ≡ Ok (record { size = y.size; last = y.last })
segment-told (Ok s) y e =
    let w : ◌≡◌ {A = Written} (record { size = s.size; last = s.last }) y = cc in
    λ k. Ok (record { size = (w k).size; last = (w k).last })
segment-told (Err why) y e = cc

fin-next : (p : Sender) (f : List ℕ) → fin (head_of (next_segment p f)) ≡ last_at (from_of p.at (length f)) (length f)
unfolding next_segment
fin-next p f = fin-header (eqb (from_of p.at (length f)) 0) (last_at (from_of p.at (length f)) (length f)) p.next.0

next-at : (p : Sender) (f : List ℕ) → (next_sender p f).at ≡ end_of (from_of p.at (length f)) (length f)
unfolding next_sender
next-at p f = refl

module _ (f : List ℕ) (call : Sender → Sending) (lent written : Sender → List ℕ) (some : 1 ≤ length f) (fits : length f ≤ fragment_max)
    (room : (p : Sender) → segment_data_max + 1 ≤ length (lent p)) (meets : (p : Sender) → SegmentSent (call p) p f (lent p) (written p)) where
  size : Sender → ℕ
  size p = length (next_segment p f)

  told : (p : Sender) (last : Bool) → last_at (from_of p.at (length f)) (length f) ≡ last → (call p).answer ≡ Ok (record { size = size p; last = last })
  unfolding size
  told p last e =
      segment-told (call p).answer (record { size = length (next_segment p f); last = last })
      ((meets p).answer ∙ ap answer_sent (send-next (length (lent p)) p f (room p) some fits)
      ∙ ap (λ (b : Bool). accepted (record { size = length (next_segment p f); last = b })) (fin-next p f ∙ e))

  after_is : (p : Sender) → (call p).sender ≡ next_sender p f
  after_is p = (meets p).sender ∙ ap (sender_after p f) (send-next (length (lent p)) p f (room p) some fits)

  -- one call: its segment is the last, or the sender after it goes on
  one-call : (p : Sender) (b : Bool) → last_at (from_of p.at (length f)) (length f) ≡ b
      → (last_at (from_of p.at (length f)) (length f) ≡ false → SentWhole f (call p).sender) → SentWhole f p
  one-call p true e on = record { segments = take (size p) (written p) ∷ []; after = (call p).sender; sends = Trip.last (meets p) (told p true e) }
  one-call p false e on =
      let w = on e in
      record { segments = take (size p) (written p) ∷ w.segments; after = w.after; sends = Trip.more (meets p) (told p false e) w.sends }

  -- where a call that goes on leaves the sender
  goes_on : (p : Sender) → last_at (from_of p.at (length f)) (length f) ≡ false → from_of (call p).sender.at (length f) ≡ from_of p.at (length f) + segment_data_max
  goes_on p e =
      let n : ℕ = from_of p.at (length f) + segment_data_max in
      let g : n < length f = leb-false _ _ e in
      let at : (call p).sender.at ≡ n = ap (λ (x : Sender). x.at) (after_is p) ∙ next-at p f ∙ ap (λ (b : Bool). cond b 0 n) e in
      ap (λ (x : ℕ). from_of x (length f)) at ∙ ap (λ (b : Bool). cond b n 0) (lt-ltb n (length f) g)

  -- k calls after the next are enough
  ends-in : (k : ℕ) (p : Sender) → length f ≤ from_of p.at (length f) + segment_data_max * suc k → SentWhole f p
  ends-in zero p h = one-call p true (le-leb (length f) (from_of p.at (length f) + segment_data_max) (omega arith)) (λ e. let g : from_of p.at (length f) + segment_data_max < length f = leb-false _ _ e in absurd (omega arith))
  ends-in (suc k) p h = one-call p _ refl (λ e. ends-in k (call p).sender (omega (arith, goes_on p e)))

pub sends-end : SendsEnd
sends-end f call lent written some fits room meets p = ends-in f call lent written some fits room meets 8 p (omega arith)
