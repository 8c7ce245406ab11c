-- A segment heard twice leaves all as the first left it; so a fragment's segments with repeats give the fragment.
-- Assumes nothing.
use mathlib.Core.Path.{◌≡◌, refl, sym, ap, ap₂, subst, ◌∙◌}
use mathlib.Core.Bool.{Bool, true, false, cond, not}
use Prim.Native.Nat.{ℕ, zero, suc, ◌+◌, ◌-◌, ◌*◌, ◌/◌, ◌%◌, ◌≤◌, ◌<◌}
use native.Mathlib.Omega.{arith}
use mathlib.Core.List.{List, [], ◌∷◌}
use lib.ListN.{length, take, drop}
use lib.Dec.{ltb, eqb}
use borrow.Author.Tests.{ltb-false, eqb-false, eqb-true}
use Rattle.laws.specs.Limits.{segment_data_max, fragment_max}
use Rattle.laws.specs.Lists.{same}
use Rattle.laws.specs.Outcome.{Outcome, accepted, refused}
use Rattle.laws.proofs.Tests.{passed-no}
use Rattle.laws.proofs.SameLaws.{same_refl, same-eq}
use Rattle.octets.specs.Bytes.{splice, AreBytes}
use Rattle.octets.proofs.Splice.{length-splice, stored-splice, splice-same}
use Rattle.transport.specs.Segment.{head_of, fin, fir, sequence, data_of, next_sequence, bit_of, transport_header, segment_count, cut, segments_of}
use Rattle.transport.specs.Receive.{Received, idle, last_segment, Place, behind, ignored, places, receiving, Progress, more, complete, kept_of, received_of, answer_received, assembly_after, lent_after_receive, SegmentReceived}
use Rattle.transport.specs.Repeated.{LastIsKept, HeardTwice, Repeated, ends, once, again, RepeatedIsReceived}
use Rattle.transport.specs.declared.Assembly.{Assembly}
use Rattle.std.specs.Prelude.{Ok, None}
use Rattle.transport.specs.declared.Reception.{Reception}
use Rattle.transport.proofs.Laws.{bit_le, got-first, got-next, place-repeat, place-fits, part_slice, rest-length}
use Rattle.transport.proofs.RoundTrip.{Calls, Run, answered, receive_all, goes, ended, round_trip, more-is, completes-is, receives-are, sends-some, sends-whole}

-- ---- one segment

-- the segment s heard with a kept and d lent: the fragment goes on, and nothing changes
record Stays (a : Assembly) (d s : List ℕ) : Type 0 where
  answer : answer_received s (receiving d a s) ≡ accepted more
  assembly : assembly_after a s (receiving d a s) ≡ a
  lent : lent_after_receive d s (receiving d a s) ≡ d

stays_by : (a : Assembly) (d s : List ℕ) (o : Outcome Place) → receiving d a s ≡ o → answer_received s o ≡ accepted more → assembly_after a s o ≡ a
    → lent_after_receive d s o ≡ d → Stays a d s
stays_by a d s o e x y z =
    record { answer = ap (answer_received s) e ∙ x; assembly = ap (assembly_after a s) e ∙ y; lent = ap (lent_after_receive d s) e ∙ z }

-- a transport byte without FIN is its FIR and its sequence
header_is : (h : ℕ) → h < 256 → fin h ≡ false → transport_header (fir h) false (sequence h) ≡ h
unfolding transport_header
header_is h small f = go (fir h) refl where
  under : h / 128 < 1
  under = even (h / 128) (omega arith) (eqb-false _ _ f) where
    even : (g : ℕ) → g < 2 → (g % 2 ≡ 1 → ⊥) → g < 1
    even zero h o = omega arith
    even (suc zero) h o = absurd (o refl)
    even (suc (suc g)) h o = absurd (omega arith)

  go : (b : Bool) → fir h ≡ b → 128 * bit_of false + 64 * bit_of (fir h) + h % 64 % 64 ≡ h
  go true b =
      let y : h / 64 % 2 ≡ 1 = eqb-true _ _ b in
      ap (λ (x : Bool). 128 * 0 + 64 * bit_of x + h % 64 % 64) b ∙ omega (arith, under)
  go false b =
      let y : h / 64 % 2 ≡ 1 → ⊥ = eqb-false _ _ b in
      let k : h / 64 < 1 = omega (arith, under) in
      ap (λ (x : Bool). 128 * 0 + 64 * bit_of x + h % 64 % 64) b ∙ omega arith

-- a segment is its transport byte and its data
parts : (s : List ℕ) → 1 ≤ length s → head_of s ∷ data_of s ≡ s
parts [] h = absurd (omega arith)
parts (x ∷ xs) h = refl

-- bytes stored twice in the same place
splice-twice : (d v : List ℕ) (n : ℕ) → n + length v ≤ length d → splice (splice d n v) n v ≡ splice d n v
splice-twice d v n h =
    ap (splice (splice d n v) n) (sym (stored-splice d n v h)) ∙ splice-same (splice d n v) n (length v) (omega (arith, length-splice d n v))

-- what is kept of a segment that ends nothing
abbrev goes_on : ℕ → ℕ → ℕ → Assembly
goes_on h n m = record { begun = true; last = record { 0 = sequence h }; last_fir = fir h; last_len = m; len = n }

kept-is : (h n m : ℕ) → fin h ≡ false → kept_of h n m ≡ goes_on h n m
kept-is h n m f = ap (λ (b : Bool). cond b idle (goes_on h n m)) f

module _ (a : Assembly) (d s : List ℕ) (x : Place) (e : receiving d a s ≡ accepted x) where
  record Taken : Type 0 where
    room : fragment_max ≤ length d
    some : 2 ≤ length s
    full : length s ≤ segment_data_max + 1
    placed : cond (fir (head_of s)) (accepted (behind 0)) (places a d s) ≡ accepted x

  -- a segment that was taken passed the tests before
  taken : Taken
  unfolding receiving
  taken =
      let t1 = passed-no (ltb (length d) fragment_max) 33 _ x e in
      let t2 = passed-no (ltb (length s) 2) 21 _ x t1.1 in
      let t3 = passed-no (ltb (segment_data_max + 1) (length s)) 21 _ x t2.1 in
      record { room = ltb-false _ _ t1.0; some = ltb-false _ _ t2.0; full = ltb-false _ _ t3.0; placed = t3.1 }

-- what was ignored is the last segment
ignored-is : (a : Assembly) (d s : List ℕ) → receiving d a s ≡ accepted ignored → last_segment a d ≡ s
unfolding places
ignored-is a d s e =
    let t1 = passed-no (not a.begun) 22 _ ignored (not_first (fir (head_of s)) _ (taken a d s ignored e).placed) in
    sym (same-eq s (last_segment a d) (was-same (same s (last_segment a d)) (not (eqb (sequence (head_of s)) (next_sequence a.last).0)) (ltb fragment_max (a.len + length (data_of s))) t1.1))
  where
    not_first : (b : Bool) (o : Outcome Place) → cond b (accepted (behind 0)) o ≡ accepted ignored → o ≡ accepted ignored
    not_first true o h = cc
    not_first false o h = h

    was-same : (b c t : Bool) → cond b (accepted ignored) (cond c (refused 22) (cond t (refused 23) (accepted (behind a.len)))) ≡ accepted ignored → b ≡ true
    was-same true c t h = refl
    was-same false true t h = cc
    was-same false false true h = cc
    was-same false false false h = cc

module _ (a : Assembly) (d s : List ℕ) (n : ℕ) (e : receiving d a s ≡ accepted (behind n)) where
  passed : Taken a d s (behind n) e
  passed = taken a d s (behind n) e

  -- with FIR its data is at the front; without, where `places` says
  first-at : fir (head_of s) ≡ true → n ≡ 0
  first-at b = cc (sym (ap (λ (x : Bool). cond x (accepted (behind 0)) (places a d s)) b) ∙ passed.placed)

  next-at : fir (head_of s) ≡ false → places a d s ≡ accepted (behind n)
  next-at b = sym (ap (λ (x : Bool). cond x (accepted (behind 0)) (places a d s)) b) ∙ passed.placed

  fits : n + length (data_of s) ≤ length d
  fits = go (fir (head_of s)) refl where
    go : (b : Bool) → fir (head_of s) ≡ b → n + length (data_of s) ≤ length d
    go true b = omega (arith, passed.room, passed.full, rest-length s, first-at b)
    go false b = omega (arith, passed.room, place-fits a d s n (next-at b))

  abbrev kept : Assembly
  kept = goes_on (head_of s) (n + length (data_of s)) (length (data_of s))

  room_after : fragment_max ≤ length (splice d n (data_of s))
  room_after = omega (arith, passed.room, length-splice d n (data_of s))

  -- it is the last segment then
  last-is : head_of s < 256 → fin (head_of s) ≡ false → last_segment kept (splice d n (data_of s)) ≡ s
  last-is small f =
      let v : List ℕ = data_of s in
      let d' : List ℕ = splice d n v in
      let k : n + length v - length v ≡ n = omega arith in
      let k₁ : n + length v - n ≡ length v = omega arith in
      let end : drop (n + length v - length v) (take (n + length v) d') ≡ v =
      ap (λ (i : ℕ). drop i (take (n + length v) d')) k ∙ sym (part_slice n (n + length v) d') ∙ ap (λ (i : ℕ). take i (drop n d')) k₁ ∙ stored-splice d n v fits in
      ap₂ (λ (x : ℕ) (l : List ℕ). x ∷ l) (header_is (head_of s) small f) end ∙ parts s (omega (arith, passed.some))

  -- the same segment again changes nothing: with FIR it starts afresh
  stays-first : fin (head_of s) ≡ false → fir (head_of s) ≡ true → Stays kept (splice d n (data_of s)) s
  stays-first f b =
      let v : List ℕ = data_of s in
      stays_by kept (splice d n v) s (accepted (behind 0)) (got-first (splice d n v) kept s room_after passed.some passed.full (eqb-true _ _ b))
      (ap (λ (x : Bool). accepted (cond x (complete (0 + length v)) more)) f)
      (kept-is (head_of s) (0 + length v) (length v) f ∙ ap (λ (k : ℕ). goes_on (head_of s) (k + length v) (length v)) (sym (first-at b)))
      (ap (λ (k : ℕ). splice (splice d n v) k v) (sym (first-at b)) ∙ splice-twice d v n fits)

  -- without, it is ignored
  stays-next : head_of s < 256 → fin (head_of s) ≡ false → fir (head_of s) ≡ false → Stays kept (splice d n (data_of s)) s
  stays-next small f b =
      let d' : List ℕ = splice d n (data_of s) in
      stays_by kept d' s (accepted ignored)
      (got-next d' kept s room_after passed.some passed.full (eqb-false _ _ b) ∙ place-repeat kept d' s refl (ap (same s) (last-is small f) ∙ same_refl s)) refl refl refl

  stays : head_of s < 256 → fin (head_of s) ≡ false → Stays kept (splice d n (data_of s)) s
  stays small f = go (fir (head_of s)) refl where
    go : (b : Bool) → fir (head_of s) ≡ b → Stays kept (splice d n (data_of s)) s
    go true b = stays-first f b
    go false b = stays-next small f b

not_last : (b : Bool) (k : ℕ) → ◌≡◌ {A = Outcome Progress} (accepted (cond b (complete k) more)) (accepted more) → b ≡ false
not_last true k e = cc
not_last false k e = refl

-- whatever is kept and lent, after a segment with which the fragment goes on: it is the last one, and heard again it changes nothing
record Goes (a : Assembly) (d s : List ℕ) : Type 0 where
  last : last_segment a d ≡ s
  stays-there : Stays a d s

heard_more : (a : Assembly) (d s : List ℕ) → head_of s < 256 → answer_received s (receiving d a s) ≡ accepted more
    → Goes (assembly_after a s (receiving d a s)) (lent_after_receive d s (receiving d a s)) s
heard_more a d s small h = go (receiving d a s) refl h where
  go : (o : Outcome Place) → receiving d a s ≡ o → answer_received s o ≡ accepted more → Goes (assembly_after a s o) (lent_after_receive d s o) s
  go (accepted (behind n)) e m =
      let f = not_last (fin (head_of s)) _ m in
      subst (λ (x : Assembly). Goes x (splice d n (data_of s)) s) (sym (kept-is (head_of s) (n + length (data_of s)) (length (data_of s)) f))
      (record { last = last-is a d s n e small f; stays-there = stays a d s n e small f })
  go (accepted ignored) e m = record { last = ignored-is a d s e; stays-there = stays_by a d s (accepted ignored) e refl refl refl }
  go (refused k) e m = let z : ◌≡◌ {A = ℕ} 0 1 = cc in absurd (omega arith)

-- the same about a call
called-goes : (r : Reception) (a : Assembly) (s d d₁ : List ℕ) → AreBytes s → SegmentReceived r a s d d₁ → r.answer ≡ Ok None → Goes r.assembly d₁ s
called-goes r a s d d₁ bytes got is =
    subst (λ (x : Assembly). Goes x d₁ s) (sym got.assembly)
    (subst (λ (l : List ℕ). Goes (assembly_after a s (receiving d a s)) l s) (sym got.lent) (heard_more a d s (bytes 0) (sym got.answer ∙ ap received_of is)))

pub last-is-kept : LastIsKept
last-is-kept r a s d d₁ bytes got is = (called-goes r a s d d₁ bytes got is).last

pub heard-twice : HeardTwice
heard-twice r r₁ a s d d₁ d₂ bytes got is got₁ =
    let w = (called-goes r a s d d₁ bytes got is).stays-there in
    let x : r₁.answer ≡ r.answer = more-is r₁.answer (got₁.answer ∙ w.answer) ∙ sym is in
    let y : r₁.assembly ≡ r.assembly = got₁.assembly ∙ w.assembly in
    (ap₂ (λ (p : Received) (q : Assembly). record { answer = p; assembly = q }) x y, got₁.lent ∙ w.lent)

-- ---- a fragment's segments

-- every transport byte is a byte
data Heads : List (List ℕ) → Type 0 where
  none : Heads []
  next : {s : List ℕ} {ss : List (List ℕ)} → head_of s < 256 → Heads ss → Heads (s ∷ ss)

header-small : (first last : Bool) (q : ℕ) → transport_header first last q < 256
unfolding transport_header
header-small first last q =
    let a : bit_of first ≤ 1 = bit_le first in
    let b : bit_of last ≤ 1 = bit_le last in
    omega arith

cut-heads : (k : ℕ) (first : Bool) (q : ℕ) (u : List ℕ) → Heads (cut k first q u)
unfolding cut
cut-heads zero first q u = none
cut-heads (suc k) first q u = next (header-small first (eqb k 0) q) (cut-heads k false ((q + 1) % 64) (drop segment_data_max u))

-- a run with repeats: the answers that the fragment goes on are more, and all else is the same
abbrev with : ℕ → ℕ → Run → Run
with k n r = record { answers = goes k n; assembly = r.assembly; lent = r.lent }

-- a segment after which the fragment goes on, twice
run-twice : (a : Assembly) (d s : List ℕ) (ts : List (List ℕ)) → head_of s < 256 → answer_received s (receiving d a s) ≡ accepted more
    → receive_all a d (s ∷ s ∷ ts) ≡ answered (accepted more) (receive_all a d (s ∷ ts))
unfolding receive_all
run-twice a d s ts small m =
    let w = (heard_more a d s small m).stays-there in
    rw (m, w.answer, w.assembly, w.lent)

-- one answer is the last
only_one : (x : Outcome Progress) (k n : ℕ) → x ∷ [] ≡ goes k n → x ≡ accepted (complete n)
unfolding goes
only_one x zero n e = cc
only_one x (suc zero) n e = cc
only_one x (suc (suc k)) n e = cc

heard-some : {ss ts : List (List ℕ)} → Repeated ss ts → 1 ≤ length ts
heard-some ends = omega arith
heard-some (once r) = omega arith
heard-some (again r) = omega arith

repeated-run : {ss ts : List (List ℕ)} → Repeated ss ts → Heads ss → (a : Assembly) (d : List ℕ) (k n : ℕ) → (receive_all a d ss).answers ≡ goes k n
    → receive_all a d ts ≡ with (length ts - 1) n (receive_all a d ss)
unfolding receive_all goes
repeated-run (ends {s}) hs a d k n e = rw (only_one _ k n e)
repeated-run (once r) (next h hs) a d zero n e = cc
repeated-run (once {s = s} {t = t} {ss = ss} {ts = ts} r) (next h hs) a d (suc k) n e =
    let o : Outcome Place = receiving d a s in
    let rest : Run = receive_all (assembly_after a s o) (lent_after_receive d s o) (t ∷ ss) in
    let x : answer_received s o ≡ accepted more = cc in
    let y : rest.answers ≡ goes k n = cc in
    let j : suc (length ts - 1) ≡ suc (length ts) - 1 = omega (arith, heard-some r) in
    ap₂ answered x (repeated-run r hs (assembly_after a s o) (lent_after_receive d s o) k n y) ∙ ap (λ (i : ℕ). with i n rest) j
repeated-run (again r) (next h hs) a d zero n e = cc
repeated-run (again {s = s} {t = t} {ss = ss} {ts = ts} r) (next h hs) a d (suc k) n e =
    let x : answer_received s (receiving d a s) ≡ accepted more = cc in
    let j : suc (suc (length ts) - 1) ≡ suc (suc (length ts)) - 1 = omega arith in
    run-twice a d s ts h x ∙ ap (answered (accepted more)) (repeated-run r (next h hs) a d (suc k) n e) ∙ ap (λ (i : ℕ). with i n (receive_all a d (s ∷ t ∷ ss))) j

pub repeated-is-received : RepeatedIsReceived
repeated-is-received p p₁ a a₁ f d d₁ ss ts answers start sends heard room receives =
    let q : ℕ = p.next.0 in
    let n : ℕ = length f in
    let t = sends-some sends in
    let z : ss ≡ segments_of q f = ap (λ (x : Calls). x.written) (sends-whole p p₁ f ss start sends).1 in
    let w : receive_all a d ss ≡ ended (segment_count n - 1) n (splice d 0 f) = ap (receive_all a d) z ∙ round_trip a d f q room t.0 t.1 in
    let hs : Heads ss = subst Heads (sym z) (cut-heads (segment_count n) true q f) in
    let r = sym (receives-are receives) ∙ repeated-run heard hs a d (segment_count n - 1) n (ap (λ (x : Run). x.answers) w) in
    record {
      told = completes-is (length ts - 1) n answers (ap (λ (x : Run). x.answers) r);
      assembly = ap (λ (x : Run). x.assembly) (r ∙ ap (with (length ts - 1) n) w);
      lent = ap (λ (x : Run). x.lent) (r ∙ ap (with (length ts - 1) n) w);
    }
