-- What the rule says of bytes and of all that begins with them: for a caller that is given a frame's bytes little by little.
-- Assumes nothing.
use mathlib.Core.Path.{◌≡◌, ap, ◌∙◌}
use mathlib.Core.Bool.{not}
use Prim.Native.Nat.{ℕ, ◌-◌, ◌≤◌, ◌<◌}
use native.Mathlib.Omega.{arith}
use mathlib.Core.List.{List, [], ◌∷◌, ◌++◌}
use lib.Dec.{ltb, eqb}
use borrow.Author.Tests.{lt-ltb, le-ltb, ltb-true, ltb-false}
use lib.ListN.{length, get_or, take, drop, length-append, length-drop, get_or-append}
use lib.Seq.{take-append-le, drop-append-le}
use Rattle.laws.specs.Limits.{user_max}
use Rattle.laws.specs.First.{first, ◌⇒◌}
use Rattle.laws.proofs.Choices.{by}
use Rattle.octets.specs.Bytes.{value, value_at}
use Rattle.frame.specs.FrameOutcome.{wrong_block, FrameOutcome, refused_by}
use Rattle.frame.specs.FrameOutcome as R
use Rattle.frame.specs.Frame.{Parts, parts, crc_ok, block_count, frame_size, first_wrong_of, user_of, body_of, decode_body, decode}
use Rattle.frame.specs.WrongBlock.{user_count}

-- the tests of a header, and what comes where they are all passed
headed : List ℕ → FrameOutcome Parts → FrameOutcome Parts
headed s o =
    first (
    not (eqb (get_or s 0 0) 5) ⇒ refused_by 12
    ∷ not (eqb (get_or s 1 0) 100) ⇒ refused_by 12
    ∷ not (crc_ok (take 10 s)) ⇒ refused_by 13
    ∷ ltb (get_or s 2 0) 5 ⇒ refused_by 14
    ∷ [])
    o

module _ (s : List ℕ) where
  -- either a test refuses by the same number whatever comes, or all are passed
  data Header : Type 0 where
    wrong : (k : ℕ) → 12 ≤ k → k ≤ 14 → ((o : FrameOutcome Parts) → headed s o ≡ refused_by k) → Header
    right : 5 ≤ get_or s 2 0 → ((o : FrameOutcome Parts) → headed s o ≡ o) → Header

  header : Header
  unfolding headed
  header =
      by (not (eqb (get_or s 0 0) 5)) (λ a. wrong 12 (omega arith) (omega arith) (λ o. rw a)) (λ a.
      by (not (eqb (get_or s 1 0) 100)) (λ b. wrong 12 (omega arith) (omega arith) (λ o. rw (a, b))) (λ b.
      by (not (crc_ok (take 10 s))) (λ d. wrong 13 (omega arith) (omega arith) (λ o. rw (a, b, d))) (λ d.
      by (ltb (get_or s 2 0) 5) (λ e. wrong 14 (omega arith) (omega arith) (λ o. rw (a, b, d, e))) (λ e.
      right (ltb-false _ _ e) (λ o. rw (a, b, d, e))))))

  -- the header's tests read the first ten bytes
  headed-more : 10 ≤ length s → (t : List ℕ) → decode user_max (s ++ t) ≡ headed s (decode_body (user_count s) (s ++ t))
  unfolding headed decode
  headed-more h t =
      let l : 10 ≤ length (s ++ t) = omega (arith, length-append s t) in
      rw (le-ltb (length (s ++ t)) 10 l, get_or-append s t 0 0 (omega arith), get_or-append s t 0 1 (omega arith), get_or-append s t 0 2 (omega arith), take-append-le 10 s t h)

  pub body-short : (n : ℕ) → length s < frame_size n → decode_body n s ≡ refused_by 11
  unfolding decode_body
  body-short n h = rw (lt-ltb (length s) (frame_size n) h)

  -- a whole body is read up to the frame's size
  pub body_more : (n : ℕ) → frame_size n ≤ length s → (t : List ℕ) → decode_body n (s ++ t) ≡ decode_body n s
  unfolding decode_body
  body_more n h t =
      let l : frame_size n ≤ length (s ++ t) = omega (arith, length-append s t) in
      let b : body_of n (s ++ t) ≡ body_of n s = ap (take (frame_size n - 10)) (drop-append-le 10 s t (omega arith)) ∙ take-append-le (frame_size n - 10) (drop 10 s) t (simp length-drop (omega arith)) in
      let v : (at : ℕ) → at ≤ 8 → value_at 2 at (s ++ t) ≡ value_at 2 at s = λ at a. ap value (ap (take 2) (drop-append-le at s t (omega arith)) ∙ take-append-le 2 (drop at s) t (simp length-drop (omega arith))) in
      rw (le-ltb (length (s ++ t)) (frame_size n) l, le-ltb (length s) (frame_size n) h, b, get_or-append s t 0 3 (omega arith), v 4 (omega arith), v 6 (omega arith))

-- a whole body is a frame, or has a wrong block
pub data Body (o : FrameOutcome Parts) : Type 0 where
  frame : (f : Parts) → o ≡ R.accepted f → Body o
  block : (b : ℕ) → o ≡ R.refused (wrong_block b) → Body o

pub body-whole : (n : ℕ) (s : List ℕ) → frame_size n ≤ length s → Body (decode_body n s)
unfolding decode_body
body-whole n s h =
    by (ltb (first_wrong_of n s) (block_count n))
    (λ w. block (first_wrong_of n s) (rw (le-ltb (length s) (frame_size n) h, w)))
    (λ w. frame (parts (get_or s 3 0) (value_at 2 4 s) (value_at 2 6 s) (user_of n s)) (rw (le-ltb (length s) (frame_size n) h, w)))

-- What the rule says of s, and of everything that begins with s
pub data Ruled (s : List ℕ) : Type 0 where
  -- under ten bytes
  short : length s < 10 → decode user_max s ≡ refused_by 11 → Ruled s
  -- a wrong header: the same number whatever follows
  wrong : 10 ≤ length s → (k : ℕ) → 12 ≤ k → k ≤ 14 → ((t : List ℕ) → decode user_max (s ++ t) ≡ refused_by k) → Ruled s
  -- a right header: the body decides
  right : 10 ≤ length s → 5 ≤ get_or s 2 0 → ((t : List ℕ) → decode user_max (s ++ t) ≡ decode_body (user_count s) (s ++ t)) → Ruled s

pub ruled : (s : List ℕ) → Ruled s
unfolding decode
ruled s =
    by (ltb (length s) 10) (λ h. short (ltb-true _ _ h) (rw h)) (λ h. go (ltb-false _ _ h) (header s))
  where
    go : 10 ≤ length s → Header s → Ruled s
    go l (wrong k a b e) = wrong l k a b (λ t. headed-more s l t ∙ e (decode_body (user_count s) (s ++ t)))
    go l (right five e) = right l five (λ t. headed-more s l t ∙ e (decode_body (user_count s) (s ++ t)))
