-- Laws of blocks with their checks: their lengths, and a turn of a loop over them.
-- Assumes nothing.
use mathlib.Core.Path.{◌≡◌, refl, sym, ap, ◌∙◌}
use Prim.Native.Nat.{ℕ, zero, suc, ◌+◌, ◌-◌, ◌*◌, ◌/◌, ◌≤◌, ◌<◌, min}
use native.Mathlib.Omega.{arith}
use mathlib.Core.List.{List, [], ◌∷◌, ◌++◌, append-nil}
use lib.ListN.{length, take, drop, length-append, length-take, length-drop, drop_of_length-le}
use borrow.Author.Tests.{lt-ltb, le-ltb}
use lib.Seq.{length-take-le, drop-drop, take-take, take_all, take_at, drop_at}
use mathlib.Core.Bool.{Bool, true, false, cond}
use Rattle.laws.proofs.Parts.{part-is, part_length}
use Rattle.octets.specs.Bytes.{splice, le}
use Rattle.octets.proofs.Splice.{splice-append}
use Rattle.octets.proofs.Le.{length-le}
use Rattle.crc.specs.Check.{check_of}
use Rattle.std.specs.Prelude.{Result, Ok, Err}
use Rattle.frame.specs.declared.Frame.{Frame}
use Rattle.frame.specs.declared.FrameRefusal.{FrameRefusal}
use Rattle.frame.specs.declared.WriteRefusal.{WriteRefusal}
use Rattle.laws.specs.Limits.{user_max, frame_max}
use Rattle.laws.specs.Outcome.{Outcome, accepted, refused}
use Rattle.frame.specs.FrameOutcome.{FrameOutcome, refused_by}
use Rattle.frame.specs.FrameOutcome as R
use Rattle.frame.specs.Frame.{wrote_of, written_size, lent_after_write, FrameWritten, read_of, fields, fields_of, checked_of, lent_after_read, FrameRead, Whole, body_of, decode, without_crc, crc_ok, first_wrong, users, Parts, with_crc, blocks, block_count, frame_size, link_header, encode, encode_into}

pub length-with-crc : (s : List ℕ) → length (with_crc s) ≡ length s + 2
unfolding with_crc
length-with-crc s = length-append s (le 2 (check_of s)) ∙ ap (λ (k : ℕ). length s + k) (length-le 2 (check_of s))

pub blocks_more : (k : ℕ) (u : List ℕ) → 0 < k → blocks k u ≡ with_crc (take 16 u) ++ blocks (k - 1) (drop 16 u)
unfolding blocks
blocks_more zero u h = absurd (omega arith)
blocks_more (suc k) u h =
    let e : k ≡ suc k - 1 = omega arith in
    ap (λ (n : ℕ). with_crc (take 16 u) ++ blocks n (drop 16 u)) e

pub blocks-none : (k : ℕ) (u : List ℕ) → k ≤ 0 → blocks k u ≡ []
unfolding blocks
blocks-none zero u h = refl
blocks-none (suc k) u h = absurd (omega arith)

-- the next of the pieces of w bytes of s, and the bytes after it
pub next-chunk : (w : ℕ) (s x r : List ℕ) → s ≡ x ++ r → length x ≡ min w (length s) → (take w s ≡ x) × (drop w s ≡ r)
next-chunk w s x [] e h =
    let n : length s ≤ w = omega (arith, ap length e ∙ length-append x []) in
    (take_all w s n ∙ e ∙ append-nil x, drop_of_length-le s n)
next-chunk w s x (y ∷ r) e h =
    let n : length x ≡ w = omega (arith, ap length e ∙ length-append x (y ∷ r)) in
    (ap (take w) e ∙ take_at x (y ∷ r) w n, ap (drop w) e ∙ drop_at x (y ∷ r) w n)

-- one block more is put
pub blocks-turn : (d : List ℕ) (to from e left : ℕ) (s : List ℕ) → 0 < left → from ≤ length s → e ≡ min (from + 16) (length s)
    → splice (splice d to (with_crc (take (e - from) (drop from s)))) (to + (e - from) + 2) (blocks (left - 1) (drop (from + 16) s))
    ≡ splice d to (blocks left (drop from s))
blocks-turn d to from e left s pos h k =
    let g : List ℕ = take (e - from) (drop from s) in
    let l : length g ≡ e - from = part_length from e s (omega arith) in
    let n : to + (e - from) + 2 ≡ to + length (with_crc g) = simp length-with-crc (omega arith) in
    rw (n, sym (drop-drop 16 from s), sym (splice-append d to (with_crc g) (blocks (left - 1) (drop 16 (drop from s)))), part-is 16 from e s h k, sym (blocks_more left (drop from s) pos))

-- the same where the blocks come as pieces of s, and all of them are put
pub blocks-piece : (d : List ℕ) (to : ℕ) (s x r : List ℕ) → s ≡ x ++ r → length x ≡ min 16 (length s) → 0 < length s
    → splice (splice d to (with_crc x)) (to + (length x + 2)) (blocks (block_count (length r)) r) ≡ splice d to (blocks (block_count (length s)) s)
blocks-piece d to s x r e h pos =
    let c = next-chunk 16 s x r e h in
    let l : length s ≡ length x + length r = ap length e ∙ length-append x r in
    let k : block_count (length s) - 1 ≡ block_count (length r) = omega arith in
    let n : length x + 2 ≡ length (with_crc x) = sym (length-with-crc x) in
    rw (blocks_more (block_count (length s)) s (omega arith), c.0, c.1, k, splice-append d to (with_crc x) (blocks (block_count (length r)) r), n)

-- ---- the whole frame

pub length-blocks : (k : ℕ) (u : List ℕ) → length u ≤ 16 * k → 16 * k < length u + 16 → length (blocks k u) ≡ length u + 2 * k
unfolding blocks
length-blocks zero u h l = omega arith
length-blocks (suc k) u h l =
    let ih : length (blocks k (drop 16 u)) ≡ length (drop 16 u) + 2 * k = length-blocks k (drop 16 u) (simp length-drop (omega arith)) (simp length-drop (omega arith)) in
    simp (length-append, length-with-crc, length-take) (omega (arith, length-drop 16 u))

pub length-header : (n c d s : ℕ) → length (link_header n c d s) ≡ 8
unfolding link_header le
length-header n c d s = refl

pub length-encode : (f : Parts) → length (encode f) ≡ frame_size (length f.user)
unfolding encode
length-encode f = simp (length-append, length-with-crc, length-header) (omega (arith, length-blocks (block_count (length f.user)) f.user (omega arith) (omega arith)))

-- the header with its check, then the blocks
pub splice-encode : (d : List ℕ) (f : Parts)
    → splice (splice d 0 (with_crc (link_header (length f.user) f.control f.destination f.source))) 10 (blocks (block_count (length f.user)) f.user)
    ≡ splice d 0 (encode f)
unfolding encode
splice-encode d f =
    let h : List ℕ = link_header (length f.user) f.control f.destination f.source in
    let e : 10 ≡ 0 + length (with_crc h) = simp (length-with-crc, length-header) (omega arith) in
    ap (λ (k : ℕ). splice (splice d 0 (with_crc h)) k (blocks (block_count (length f.user)) f.user)) e
    ∙ sym (splice-append d 0 (with_crc h) (blocks (block_count (length f.user)) f.user))

module _ (room : ℕ) (f : Parts) where
  pub into-lent : room < frame_max → encode_into room f ≡ refused 33
  unfolding encode_into
  into-lent h = rw (lt-ltb room frame_max h)

  pub into-long : frame_max ≤ room → user_max < length f.user → encode_into room f ≡ refused 16
  unfolding encode_into
  into-long h l = rw (le-ltb room frame_max h, lt-ltb user_max (length f.user) l)

  pub into : frame_max ≤ room → length f.user ≤ user_max → encode_into room f ≡ accepted (encode f)
  unfolding encode_into
  into h l = rw (le-ltb room frame_max h, le-ltb user_max (length f.user) l)

-- the contract from the outcome
pub written-by : (w : Result ℕ WriteRefusal) (f : Parts) (d d' : List ℕ) (o : Outcome (List ℕ)) → encode_into (length d) f ≡ o → wrote_of w ≡ written_size o
    → d' ≡ lent_after_write d o → FrameWritten w f d d'
written-by w f d d' o e a l = record { answer = a ∙ ap written_size (sym e); lent = l ∙ ap (lent_after_write d) (sym e) }

-- ---- reading: a turn of a loop over blocks with their checks

pub wrong-more : (k : ℕ) (b : List ℕ) → 0 < k → first_wrong k b ≡ cond (crc_ok (take 18 b)) (suc (first_wrong (k - 1) (drop 18 b))) 0
unfolding first_wrong
wrong-more zero b h = absurd (omega arith)
wrong-more (suc k) b h =
    let e : k ≡ suc k - 1 = omega arith in
    ap (λ (n : ℕ). cond (crc_ok (take 18 b)) (suc (first_wrong n (drop 18 b))) 0) e

pub wrong-none : (k : ℕ) (b : List ℕ) → k ≤ 0 → first_wrong k b ≡ 0
unfolding first_wrong
wrong-none zero b h = refl
wrong-none (suc k) b h = absurd (omega arith)

pub users-more : (k : ℕ) (b : List ℕ) → 0 < k → users k b ≡ without_crc (take 18 b) ++ users (k - 1) (drop 18 b)
unfolding users
users-more zero b h = absurd (omega arith)
users-more (suc k) b h =
    let e : k ≡ suc k - 1 = omega arith in
    ap (λ (n : ℕ). without_crc (take 18 b) ++ users n (drop 18 b)) e

pub users-none : (k : ℕ) (b : List ℕ) → k ≤ 0 → users k b ≡ []
unfolding users
users-none zero b h = refl
users-none (suc k) b h = absurd (omega arith)

module _ (at e left : ℕ) (b : List ℕ) (pos : 0 < left) (h : at ≤ length b) (k : e ≡ min (at + 18) (length b)) where
  -- a block whose check is right is passed, and one whose check is wrong decides
  pub wrong-turn : crc_ok (take (e - at) (drop at b)) ≡ true → first_wrong left (drop at b) ≡ suc (first_wrong (left - 1) (drop (at + 18) b))
  wrong-turn t = rw (wrong-more left (drop at b) pos, sym (part-is 18 at e b h k), t, drop-drop 18 at b)

  pub wrong-stop : crc_ok (take (e - at) (drop at b)) ≡ false → first_wrong left (drop at b) ≡ 0
  wrong-stop t = rw (wrong-more left (drop at b) pos, sym (part-is 18 at e b h k), t)

  -- a block without its check, `&b[at..e - 2]`
  pub without-crc-part : without_crc (take 18 (drop at b)) ≡ take (e - 2 - at) (drop at b)
  unfolding without_crc
  without-crc-part =
      let l : length (take (e - at) (drop at b)) ≡ e - at = part_length at e b (omega arith) in
      let n : e - at - 2 ≡ e - 2 - at = omega arith in
      rw (sym (part-is 18 at e b h k), l, take-take (e - at - 2) (e - at) (drop at b) (omega arith), n)

  -- the user bytes of one block more are copied
  pub users-turn : (d : List ℕ) (to : ℕ)
      → splice (splice d to (take (e - 2 - at) (drop at b))) (to + (e - 2 - at)) (users (left - 1) (drop (at + 18) b)) ≡ splice d to (users left (drop at b))
  users-turn d to =
      let g : List ℕ = take (e - 2 - at) (drop at b) in
      let l : length g ≡ e - 2 - at = length-take-le (e - 2 - at) (drop at b) (simp length-drop (omega arith)) in
      let n : to + (e - 2 - at) ≡ to + length g = omega arith in
      rw (n, sym (drop-drop 18 at b), sym (splice-append d to g (users (left - 1) (drop 18 (drop at b)))), sym without-crc-part, sym (users-more left (drop at b) pos))

-- how many blocks n bytes of a frame's body are
abbrev pub chunk_count : ℕ → ℕ
chunk_count n = (n + 15) / 18

-- the same where the blocks come as pieces of s, and all of them are copied
pub users-piece : (d : List ℕ) (to : ℕ) (s x r : List ℕ) → s ≡ x ++ r → length x ≡ min 18 (length s) → 0 < length s → length s ≤ 18 * chunk_count (length s)
    → 18 * chunk_count (length s) < length s + 16
    → splice (splice d to (take (length x - 2) x)) (to + (length x - 2)) (users (chunk_count (length r)) r) ≡ splice d to (users (chunk_count (length s)) s)
unfolding without_crc
users-piece d to s x r e h pos most least =
    let c = next-chunk 18 s x r e h in
    let l : length s ≡ length x + length r = ap length e ∙ length-append x r in
    let k : chunk_count (length s) - 1 ≡ chunk_count (length r) = omega arith in
    let n : length x - 2 ≡ length (take (length x - 2) x) = sym (length-take-le (length x - 2) x (omega arith)) in
    rw (users-more (chunk_count (length s)) s (omega arith), c.0, c.1, k, splice-append d to (take (length x - 2) x) (users (chunk_count (length r)) r), ← n)

pub length-users : (k : ℕ) (b : List ℕ) → length b ≤ 18 * k → 18 * k < length b + 16 → length (users k b) ≡ length b - 2 * k
unfolding users without_crc
length-users zero b h l = omega arith
length-users (suc k) b h l =
    let ih : length (users k (drop 18 b)) ≡ length (drop 18 b) - 2 * k = length-users k (drop 18 b) (simp length-drop (omega arith)) (simp length-drop (omega arith)) in
    simp (length-append, length-take) (omega (arith, length-drop 18 b))

-- the user bytes of a frame
module _ (n : ℕ) (s : List ℕ) (whole : frame_size n ≤ length s) where
  pub length-body : length (body_of n s) ≡ n + 2 * block_count n
  length-body = length-take-le (frame_size n - 10) (drop 10 s) (simp length-drop (omega arith)) ∙ omega arith

  pub length-user : length (users (block_count n) (body_of n s)) ≡ n
  length-user =
      let l : length (body_of n s) ≡ n + 2 * block_count n = length-body in
      length-users (block_count n) (body_of n s) (omega arith) (omega arith) ∙ omega arith

-- ---- checking first, copying after

pub decode-lent : (room : ℕ) (s : List ℕ) → room < user_max → decode room s ≡ refused_by 33
unfolding decode
decode-lent room s h = rw (lt-ltb room user_max h)

pub decode-room : (room : ℕ) (s : List ℕ) → user_max ≤ room → decode room s ≡ decode user_max s
unfolding decode
decode-room room s h = rw (le-ltb room user_max h)

-- something else was given than what this test gives where it is true: the test was passed
pub passed-by : (t : Bool) (x o y : FrameOutcome Parts) → (x ≡ y → ⊥) → cond t x o ≡ y → (t ≡ false) × (o ≡ y)
passed-by true x o y h e = absurd (h e)
passed-by false x o y h e = (refl, e)

-- the contract from the outcome
pub read_by : (r : Result Frame FrameRefusal) (s d d' : List ℕ) (o : FrameOutcome Parts) → decode (length d) s ≡ o → read_of r ≡ fields_of o → d' ≡ lent_after_read d o
    → FrameRead r s d d'
read_by r s d d' o e a l = record { answer = a ∙ ap fields_of (sym e); lent = l ∙ ap (lent_after_read d) (sym e) }

-- a frame that was checked has its fields and so many user bytes
pub fields-checked : (r : Result Frame FrameRefusal) (s : List ℕ) → Whole r s → read_of r ≡ fields_of (checked_of r s)
fields-checked (Ok f) s w =
    ap (λ (k : ℕ). R.accepted (fields f.control f.destination f.source k)) (sym (length-user f.len s w.1))
fields-checked (Err why) s w = refl
