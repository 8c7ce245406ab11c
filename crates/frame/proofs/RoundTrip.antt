-- Reading gives back what was written, and writing what was read gives back the bytes.
-- Assumes nothing.
use mathlib.Core.Path.{◌≡◌, refl, sym, ap, ◌∙◌, subst}
use mathlib.Core.Bool.{Bool, true, false, cond, not}
use Prim.Native.Nat.{ℕ, zero, suc, ◌+◌, ◌-◌, ◌*◌, ◌≤◌, ◌<◌}
use native.Mathlib.Omega.{arith}
use mathlib.Core.List.{List, [], ◌∷◌, ◌++◌, append_assoc, append-nil}
use lib.Dec.{ltb, eqb}
use borrow.Author.Tests.{le-ltb, ltb-false, eq-eqb, eqb-true, not-false}
use lib.ListN.{length, get_or, take, drop, length-append, length-take, length-drop, take-append-drop, drop_of_length-le}
use lib.Seq.{length-take-le, take-take, take_all, take_at, drop_at, take-add, drop-append_seam}
use Rattle.octets.specs.Bytes.{splice, le, value, value_at, AreBytes}
use Rattle.octets.proofs.Splice.{drop-splice, stored-splice}
use Rattle.octets.proofs.Le.{length-le, value-le, le-value, take-bytes, drop-bytes}
use Rattle.crc.specs.Check.{check_of}
use Rattle.laws.specs.Limits.{user_max, frame_max}
use Rattle.laws.specs.Outcome.{accepted, refused}
use Rattle.frame.specs.FrameOutcome.{Refusal, wrong_block, FrameOutcome, refused_by}
use Rattle.frame.specs.FrameOutcome as R
use Rattle.std.specs.Prelude.{Result, Ok, Err}
use Rattle.frame.specs.declared.Frame.{Frame}
use Rattle.frame.specs.declared.FrameRefusal.{FrameRefusal}
use Rattle.frame.specs.declared.WriteRefusal.{WriteRefusal}
use Rattle.frame.specs.declared.WriteRefusal.TheVariants as W
use Rattle.frame.specs.Frame.{Parts, parts, with_crc, blocks, block_count, frame_size, link_header, encode, without_crc, crc_ok, first_wrong, first_wrong_of, users, body_of, decode_body, decode, encode_into, wrote_of, written_size, lent_after_write, Fields, fields, fields_of, read_of, lent_after_read}
use Rattle.frame.specs.RoundTrip.{WrittenIsRead, ReadIsWritten}
use Rattle.frame.proofs.Laws.{length-with-crc, length-blocks, length-header, length-encode, length-body, length-user, into, passed-by}

check-lt : (bs : List ℕ) → check_of bs < 65536
unfolding check_of
check-lt bs = omega arith

-- ---- one block

seam-take : (g : List ℕ) → take (length g) (with_crc g) ≡ g
unfolding with_crc
seam-take g = take_at g (le 2 (check_of g)) (length g) refl

seam-value : (g : List ℕ) → value_at 2 (length g) (with_crc g) ≡ check_of g
unfolding with_crc
seam-value g =
    ap (λ (l : List ℕ). value (take 2 l)) (drop-append_seam g (le 2 (check_of g)))
    ∙ ap value (take_all 2 (le 2 (check_of g)) (omega (arith, length-le 2 (check_of g))))
    ∙ value-le 2 (check_of g) (check-lt g)

pub without-with-crc : (g : List ℕ) → without_crc (with_crc g) ≡ g
unfolding without_crc
without-with-crc g =
    let n : length (with_crc g) - 2 ≡ length g = omega (arith, length-with-crc g) in
    ap (λ (k : ℕ). take k (with_crc g)) n ∙ seam-take g

pub ok-with-crc : (g : List ℕ) → crc_ok (with_crc g) ≡ true
unfolding crc_ok
ok-with-crc g =
    let n : length (with_crc g) - 2 ≡ length g = omega (arith, length-with-crc g) in
    eq-eqb _ _ (ap check_of (without-with-crc g) ∙ sym (ap (λ (k : ℕ). value_at 2 k (with_crc g)) n ∙ seam-value g))

pub with-without-crc : (g : List ℕ) → AreBytes g → 2 ≤ length g → crc_ok g ≡ true → with_crc (without_crc g) ≡ g
unfolding with_crc crc_ok without_crc
with-without-crc g bytes h t =
    let m : ℕ = length g - 2 in
    let l : length (drop m g) ≡ 2 = length-drop m g ∙ omega arith in
    let all : take 2 (drop m g) ≡ drop m g = take_all 2 (drop m g) (omega arith) in
    ap (λ (c : ℕ). take m g ++ le 2 c) (eqb-true _ _ t ∙ ap value all)
    ∙ ap (λ (x : List ℕ). take m g ++ x) (ap (λ (k : ℕ). le k (value (drop m g))) (sym l) ∙ le-value (drop m g) (drop-bytes m g bytes))
    ∙ take-append-drop m g

-- ---- all blocks

-- the first block of some, and the others
first_block : (k : ℕ) (u : List ℕ) → length u ≤ 16 * suc k → 16 * suc k < length u + 16
    → (take 18 (with_crc (take 16 u) ++ blocks k (drop 16 u)) ≡ with_crc (take 16 u)) × (drop 18 (with_crc (take 16 u) ++ blocks k (drop 16 u)) ≡ blocks k (drop 16 u))
unfolding blocks
first_block zero u h l =
    let n : length (with_crc (take 16 u)) ≤ 18 = simp (length-with-crc, length-take) (omega arith) in
    rw (append-nil (with_crc (take 16 u))) (take_all 18 (with_crc (take 16 u)) n, drop_of_length-le (with_crc (take 16 u)) n)
first_block (suc k) u h l =
    let n : length (with_crc (take 16 u)) ≡ 18 = simp (length-with-crc, length-take) (omega arith) in
    (take_at (with_crc (take 16 u)) _ 18 n, drop_at (with_crc (take 16 u)) _ 18 n)

-- no block is wrong
pub ok-blocks : (k : ℕ) (u : List ℕ) → length u ≤ 16 * k → 16 * k < length u + 16 → first_wrong k (blocks k u) ≡ k
unfolding first_wrong blocks
ok-blocks zero u h l = refl
ok-blocks (suc k) u h l =
    let s = first_block k u h l in
    rw (s.0, s.1, ok-with-crc (take 16 u)) (ap (λ (n : ℕ). suc n) (ok-blocks k (drop 16 u) (simp length-drop (omega arith)) (simp length-drop (omega arith))))

pub users-blocks : (k : ℕ) (u : List ℕ) → length u ≤ 16 * k → 16 * k < length u + 16 → users k (blocks k u) ≡ u
unfolding users blocks
users-blocks zero [] h l = refl
users-blocks zero (x ∷ u) h l = absurd (omega arith)
users-blocks (suc k) u h l =
    let s = first_block k u h l in
    rw (s.0, s.1, without-with-crc (take 16 u), users-blocks k (drop 16 u) (simp length-drop (omega arith)) (simp length-drop (omega arith))) (take-append-drop 16 u)

-- the user bytes of the first block of some, and of the others
first-user : (k : ℕ) (b : List ℕ) → length b ≤ 18 * suc k → 18 * suc k < length b + 16
    → (take 16 (without_crc (take 18 b) ++ users k (drop 18 b)) ≡ without_crc (take 18 b)) × (drop 16 (without_crc (take 18 b) ++ users k (drop 18 b)) ≡ users k (drop 18 b))
unfolding users without_crc
first-user zero b h l =
    let n : length (without_crc (take 18 b)) ≤ 16 = simp length-take (omega arith) in
    rw (append-nil (without_crc (take 18 b))) (take_all 16 (without_crc (take 18 b)) n, drop_of_length-le (without_crc (take 18 b)) n)
first-user (suc k) b h l =
    let n : length (without_crc (take 18 b)) ≡ 16 = simp length-take (omega arith) in
    (take_at (without_crc (take 18 b)) _ 16 n, drop_at (without_crc (take 18 b)) _ 16 n)

-- where none of some blocks is wrong, the first is right, and none of the others is wrong
right_by : (t : Bool) (w k : ℕ) → suc k ≤ cond t (suc w) 0 → (t ≡ true) × (k ≤ w)
right_by true w k h = (refl, omega arith)
right_by false w k h = absurd (omega arith)

pub blocks-users : (k : ℕ) (b : List ℕ) → AreBytes b → length b ≤ 18 * k → 18 * k < length b + 16 → k ≤ first_wrong k b → blocks k (users k b) ≡ b
unfolding first_wrong blocks users
blocks-users zero [] bytes h l t = refl
blocks-users zero (x ∷ b) bytes h l t = absurd (omega arith)
blocks-users (suc k) b bytes h l t =
    let s = first-user k b h l in
    let p = right_by (crc_ok (take 18 b)) (first_wrong k (drop 18 b)) k t in
    rw (
      s.0,
      s.1,
      with-without-crc (take 18 b) (take-bytes 18 b bytes) (simp length-take (omega arith)) p.0,
      blocks-users k (drop 18 b) (drop-bytes 18 b bytes) (simp length-drop (omega arith)) (simp length-drop (omega arith)) p.1,
    )
    (take-append-drop 18 b)

-- ---- what was written is read again, whatever bytes follow

module _ (f : Parts) (rest : List ℕ) where
  -- the fields at their places
  field-start : get_or (encode f ++ rest) 0 0 ≡ 5
  unfolding encode with_crc link_header
  field-start = refl

  field-start-2 : get_or (encode f ++ rest) 1 0 ≡ 100
  unfolding encode with_crc link_header
  field-start-2 = refl

  field-length : get_or (encode f ++ rest) 2 0 ≡ length f.user + 5
  unfolding encode with_crc link_header
  field-length = refl

  field-control : get_or (encode f ++ rest) 3 0 ≡ f.control
  unfolding encode with_crc link_header
  field-control = refl

  field-destination : f.destination < 65536 → value_at 2 4 (encode f ++ rest) ≡ f.destination
  unfolding encode with_crc link_header le
  field-destination h = value-le 2 f.destination h

  field-source : f.source < 65536 → value_at 2 6 (encode f ++ rest) ≡ f.source
  unfolding encode with_crc link_header le
  field-source h = value-le 2 f.source h

  length_whole : length (encode f ++ rest) ≡ frame_size (length f.user) + length rest
  length_whole = length-append (encode f) rest ∙ ap (λ (k : ℕ). k + length rest) (length-encode f)

  cut : (take 10 (encode f ++ rest) ≡ with_crc (link_header (length f.user) f.control f.destination f.source))
      × (drop 10 (encode f ++ rest) ≡ blocks (block_count (length f.user)) f.user ++ rest)
  unfolding encode
  cut =
      let h : List ℕ = with_crc (link_header (length f.user) f.control f.destination f.source) in
      let n : length h ≡ 10 = simp (length-with-crc, length-header) (omega arith) in
      rw (append_assoc h _ rest) (take_at h _ 10 n, drop_at h _ 10 n)

  body : body_of (length f.user) (encode f ++ rest) ≡ blocks (block_count (length f.user)) f.user
  body =
      let k : ℕ = block_count (length f.user) in
      let l : length (blocks k f.user) ≡ length f.user + 2 * k = length-blocks k f.user (omega arith) (omega arith) in
      ap (take (frame_size (length f.user) - 10)) cut.1 ∙ take_at (blocks k f.user) rest (frame_size (length f.user) - 10) (omega arith)

  pub decode-encode : (room : ℕ) → user_max ≤ room → f.destination < 65536 → f.source < 65536 → decode room (encode f ++ rest) ≡ R.accepted f
  unfolding decode decode_body
  decode-encode room h hd hs =
      let k : ℕ = block_count (length f.user) in
      let n : length f.user + 5 - 5 ≡ length f.user = omega arith in
      let ten : 10 ≤ length (encode f ++ rest) = omega (arith, length_whole) in
      let whole : frame_size (length f.user) ≤ length (encode f ++ rest) = omega (arith, length_whole) in
      rw (
        le-ltb room user_max h,
        le-ltb (length (encode f ++ rest)) 10 ten,
        field-start,
        field-start-2,
        cut.0,
        ok-with-crc (link_header (length f.user) f.control f.destination f.source),
        field-length,
        le-ltb (length f.user + 5) 5 (omega arith),
        n,
        le-ltb (length (encode f ++ rest)) (frame_size (length f.user)) whole,
        body,
        ok-blocks k f.user (omega arith) (omega arith),
        le-ltb k k (omega arith),
        users-blocks k f.user (omega arith) (omega arith),
        field-control,
        field-destination hd,
        field-source hs,
      )

-- ---- what was read, written again, is the bytes that were read

-- the first eight bytes by their fields
header_is : (s : List ℕ) → AreBytes s → 8 ≤ length s → get_or s 0 0 ≡ 5 → get_or s 1 0 ≡ 100 → 5 ≤ get_or s 2 0
    → link_header (get_or s 2 0 - 5) (get_or s 3 0) (value_at 2 4 s) (value_at 2 6 s) ≡ take 8 s
unfolding link_header
header_is (s0 ∷ s1 ∷ s2 ∷ s3 ∷ s4 ∷ s5 ∷ s6 ∷ s7 ∷ s) bytes l e0 e1 h =
    let n : s2 - 5 + 5 ≡ s2 = omega arith in
    let d : le 2 (value (s4 ∷ s5 ∷ [])) ≡ s4 ∷ s5 ∷ [] = le-value (s4 ∷ s5 ∷ []) (take-bytes 2 (s4 ∷ s5 ∷ s6 ∷ s7 ∷ s) (drop-bytes 4 (s0 ∷ s1 ∷ s2 ∷ s3 ∷ s4 ∷ s5 ∷ s6 ∷ s7 ∷ s) bytes)) in
    let c : le 2 (value (s6 ∷ s7 ∷ [])) ≡ s6 ∷ s7 ∷ [] = le-value (s6 ∷ s7 ∷ []) (take-bytes 2 (s6 ∷ s7 ∷ s) (drop-bytes 6 (s0 ∷ s1 ∷ s2 ∷ s3 ∷ s4 ∷ s5 ∷ s6 ∷ s7 ∷ s) bytes)) in
    rw (n, d, c) (sym (rw (e0, e1)))
header_is [] bytes l e0 e1 h = absurd (omega arith)
header_is (s0 ∷ []) bytes l e0 e1 h = absurd (omega arith)
header_is (s0 ∷ s1 ∷ []) bytes l e0 e1 h = absurd (omega arith)
header_is (s0 ∷ s1 ∷ s2 ∷ []) bytes l e0 e1 h = absurd (omega arith)
header_is (s0 ∷ s1 ∷ s2 ∷ s3 ∷ []) bytes l e0 e1 h = absurd (omega arith)
header_is (s0 ∷ s1 ∷ s2 ∷ s3 ∷ s4 ∷ []) bytes l e0 e1 h = absurd (omega arith)
header_is (s0 ∷ s1 ∷ s2 ∷ s3 ∷ s4 ∷ s5 ∷ []) bytes l e0 e1 h = absurd (omega arith)
header_is (s0 ∷ s1 ∷ s2 ∷ s3 ∷ s4 ∷ s5 ∷ s6 ∷ []) bytes l e0 e1 h = absurd (omega arith)

without-crc-ten : (s : List ℕ) → 10 ≤ length s → without_crc (take 10 s) ≡ take 8 s
unfolding without_crc
without-crc-ten s h = rw (length-take-le 10 s h) (take-take 8 10 s (omega arith))

-- a whole frame of n user bytes, with right checks
encode-read : (n : ℕ) (s : List ℕ) → AreBytes s → frame_size n ≤ length s → get_or s 0 0 ≡ 5 → get_or s 1 0 ≡ 100 → 5 ≤ get_or s 2 0 → n ≡ get_or s 2 0 - 5
    → crc_ok (take 10 s) ≡ true → block_count n ≤ first_wrong_of n s
    → encode (parts (get_or s 3 0) (value_at 2 4 s) (value_at 2 6 s) (users (block_count n) (body_of n s))) ≡ take (frame_size n) s
unfolding encode
encode-read n s bytes whole e0 e1 h en ok oks =
    let u : length (users (block_count n) (body_of n s)) ≡ n = length-user n s whole in
    let lb : length (body_of n s) ≡ n + 2 * block_count n = length-body n s whole in
    let ten : length (take 10 s) ≡ 10 = length-take-le 10 s (omega arith) in
    let eight : without_crc (take 10 s) ≡ take 8 s = without-crc-ten s (omega arith) in
    let hd : with_crc (link_header n (get_or s 3 0) (value_at 2 4 s) (value_at 2 6 s)) ≡ take 10 s =
    ap (λ (k : ℕ). with_crc (link_header k (get_or s 3 0) (value_at 2 4 s) (value_at 2 6 s))) en
    ∙ ap with_crc (header_is s bytes (omega arith) e0 e1 h ∙ sym eight)
    ∙ with-without-crc (take 10 s) (take-bytes 10 s bytes) (omega arith) ok in
    let bl : blocks (block_count n) (users (block_count n) (body_of n s)) ≡ body_of n s =
    blocks-users (block_count n) (body_of n s) (take-bytes (frame_size n - 10) (drop 10 s) (drop-bytes 10 s bytes)) (omega arith) (omega arith) oks in
    let sum : 10 + (frame_size n - 10) ≡ frame_size n = omega arith in
    rw (u, hd, bl) (sym (take-add 10 (frame_size n - 10) s) ∙ ap (λ (k : ℕ). take k s) sum)

not-accepted : (why : Refusal) (f : Parts) → R.refused why ≡ R.accepted f → ⊥
not-accepted why f e = let z : ◌≡◌ {A = ℕ} 0 1 = cc in omega arith

-- what was accepted passed every test
record Passed (room : ℕ) (s : List ℕ) (f : Parts) : Type 0 where
  lent : user_max ≤ room
  start : (get_or s 0 0 ≡ 5) × (get_or s 1 0 ≡ 100)
  header : crc_ok (take 10 s) ≡ true
  long : 5 ≤ get_or s 2 0
  whole : frame_size (get_or s 2 0 - 5) ≤ length s
  checks : block_count (get_or s 2 0 - 5) ≤ first_wrong_of (get_or s 2 0 - 5) s
  is : parts (get_or s 3 0) (value_at 2 4 s) (value_at 2 6 s) (users (block_count (get_or s 2 0 - 5)) (body_of (get_or s 2 0 - 5) s)) ≡ f

passed : (room : ℕ) (s : List ℕ) (f : Parts) → decode room s ≡ R.accepted f → Passed room s f
unfolding decode decode_body
passed room s f e =
    let n : ℕ = get_or s 2 0 - 5 in
    let a1 = passed-by (ltb room user_max) (refused_by 33) _ _ (not-accepted _ f) e in
    let a2 = passed-by (ltb (length s) 10) (refused_by 11) _ _ (not-accepted _ f) a1.1 in
    let a3 = passed-by (not (eqb (get_or s 0 0) 5)) (refused_by 12) _ _ (not-accepted _ f) a2.1 in
    let a4 = passed-by (not (eqb (get_or s 1 0) 100)) (refused_by 12) _ _ (not-accepted _ f) a3.1 in
    let a5 = passed-by (not (crc_ok (take 10 s))) (refused_by 13) _ _ (not-accepted _ f) a4.1 in
    let a6 = passed-by (ltb (get_or s 2 0) 5) (refused_by 14) _ _ (not-accepted _ f) a5.1 in
    let a7 = passed-by (ltb (length s) (frame_size n)) (refused_by 11) _ _ (not-accepted _ f) a6.1 in
    let a8 = passed-by (ltb (first_wrong_of n s) (block_count n)) (R.refused (wrong_block (first_wrong_of n s))) _ _ (not-accepted _ f) a7.1 in
    record {
      lent = ltb-false _ _ a1.0;
      start = (eqb-true _ _ (not-false _ a3.0), eqb-true _ _ (not-false _ a4.0));
      header = not-false _ a5.0;
      long = ltb-false _ _ a6.0;
      whole = ltb-false _ _ a7.0;
      checks = ltb-false _ _ a8.0;
      is = cc a8.1;
    }

pub encode-decode : (room : ℕ) (s : List ℕ) (f : Parts) → AreBytes s → decode room s ≡ R.accepted f → encode f ≡ take (frame_size (length f.user)) s
encode-decode room s f bytes e =
    let p = passed room s f e in
    let n : ℕ = get_or s 2 0 - 5 in
    subst (λ (g : Parts). encode g ≡ take (frame_size (length g.user)) s) p.is
    (encode-read n s bytes p.whole p.start.0 p.start.1 p.long refl p.header p.checks
    ∙ ap (λ (k : ℕ). take (frame_size k) s) (sym (length-user n s p.whole)))

-- the length byte is a byte
pub read-most : (room : ℕ) (s : List ℕ) (f : Parts) → AreBytes s → decode room s ≡ R.accepted f → length f.user ≤ user_max
read-most room s f bytes e =
    let p = passed room s f e in
    let b : get_or s 2 0 < 256 = bytes 2 in
    let l : length f.user ≡ get_or s 2 0 - 5 = ap (λ (g : Parts). length g.user) (sym p.is) ∙ length-user (get_or s 2 0 - 5) s p.whole in
    omega arith

-- ---- the same about the calls

-- the answer of a write that was accepted
size_is : (w : Result ℕ WriteRefusal) (n : ℕ) → wrote_of w ≡ accepted n → w ≡ Ok n
size_is (Ok m) n e = cc
size_is (Err W.UserTooLong) n e = cc
size_is (Err W.OutputTooSmall) n e = cc

-- the answer of a read that was accepted
frame_is : (r : Result Frame FrameRefusal) (x : Fields) → read_of r ≡ R.accepted x
    → r ≡ Ok (record { control = x.control; destination = x.destination; source = x.source; len = x.len })
frame_is (Ok f) x e =
    let y : fields f.control f.destination f.source f.len ≡ x = cc in
    λ k. Ok (record { control = (y k).control; destination = (y k).destination; source = (y k).source; len = (y k).len })
frame_is (Err why) x e = cc

fits_by : (a b : Bool) (x : List ℕ) (n : ℕ) → accepted n ≡ written_size (cond a (refused 33) (cond b (refused 16) (accepted x))) → (a ≡ false) × (b ≡ false)
fits_by true b x n e = (cc, cc)
fits_by false true x n e = (cc, cc)
fits_by false false x n e = (refl, refl)

-- what was written had room, and at most 250 user bytes
fits : (room n : ℕ) (f : Parts) → accepted n ≡ written_size (encode_into room f) → (frame_max ≤ room) × (length f.user ≤ user_max)
unfolding encode_into
fits room n f e =
    let p = fits_by (ltb room frame_max) (ltb user_max (length f.user)) (encode f) n e in
    (ltb-false _ _ p.0, ltb-false _ _ p.1)

-- a frame in the lent bytes: its bytes, then those that were there
module _ (f : Parts) (d : List ℕ) (room : frame_max ≤ length d) (most : length f.user ≤ user_max) where
  room_for : 0 + length (encode f) ≤ length d
  room_for = omega (arith, length-encode f)

  in_lent : splice d 0 (encode f) ≡ encode f ++ drop (0 + length (encode f)) d
  in_lent = drop-splice d 0 (encode f) room_for

  front : take (length (encode f)) (splice d 0 (encode f)) ≡ encode f
  front = stored-splice d 0 (encode f) room_for

pub written-is-read : WrittenIsRead
unfolding WrittenIsRead
written-is-read w r f lent written out user n hd hs wrote size room got =
    let p = fits (length lent) n f (ap wrote_of (sym size) ∙ wrote.answer) in
    let o = into (length lent) f p.0 p.1 in
    let b = wrote.lent ∙ ap (lent_after_write lent) o ∙ in_lent f lent p.0 p.1 in
    let e = ap (decode (length out)) b ∙ decode-encode f (drop (0 + length (encode f)) lent) (length out) room hd hs in
    (frame_is r _ (got.answer ∙ ap fields_of e), got.lent ∙ ap (lent_after_read out) e)

pub read-is-written : ReadIsWritten
unfolding ReadIsWritten
read-is-written r w s out user lent written c d a n bytes got is room wrote =
    go (decode (length out) s) refl (ap read_of (sym is) ∙ got.answer) got.lent
  where
    go : (o : FrameOutcome Parts) → decode (length out) s ≡ o → R.accepted (fields c d a n) ≡ fields_of o → user ≡ lent_after_read out o
        → (n ≤ user_max) × (w ≡ Ok (frame_size n)) × (take (frame_size n) written ≡ take (frame_size n) s)
    go (R.refused why) e x l = let z : n ≡ suc n = cc in absurd (omega arith)
    go (R.accepted f) e x l =
        let most : length f.user ≤ user_max = read-most (length out) s f bytes e in
        let h : user_max ≤ length out = (passed (length out) s f e).lent in
        let y : fields c d a n ≡ fields f.control f.destination f.source (length f.user) = cc in
        let m : n ≡ length f.user = ap (λ (z : Fields). z.len) y in
        let u : take n user ≡ f.user = rw (m, l) (stored-splice out 0 f.user (omega arith)) in
        let g : parts c d a (take n user) ≡ f = λ k. parts (y k).control (y k).destination (y k).source (u k) in
        let o = ap (encode_into (length lent)) g ∙ into (length lent) f room most in
        let z : length (encode f) ≡ frame_size n = length-encode f ∙ ap frame_size (sym m) in (
          omega arith,
          size_is w (frame_size n) (wrote.answer ∙ ap written_size o ∙ ap accepted z),
          rw (wrote.lent, o, sym z) (front f lent room most ∙ encode-decode (length out) s f bytes e ∙ ap (λ (k : ℕ). take k s) (sym (length-encode f))),
        )
