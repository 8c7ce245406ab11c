-- The block that refusal 15 carries is wrong, and no earlier one is; and such a block is carried.
-- Assumes nothing.
use mathlib.Core.Path.{◌≡◌, refl, sym, ap, ◌∙◌, subst}
use mathlib.Core.Bool.{Bool, true, false, cond, not}
use Prim.Native.Nat.{ℕ, zero, suc, ◌+◌, ◌*◌, ◌≤◌, ◌<◌}
use native.Mathlib.Omega.{arith}
use mathlib.Core.List.{List}
use lib.Dec.{ltb, eqb}
use borrow.Author.Tests.{ltb-true, ltb-false, le-ltb, lt-ltb, eq-eqb}
use lib.ListN.{length, get_or, take, drop}
use lib.Seq.{drop-drop}
use Rattle.laws.specs.Limits.{user_max}
use Rattle.octets.specs.Bytes.{AreBytes}
use Rattle.frame.specs.FrameOutcome.{Refusal, wrong_block, FrameOutcome, accepted, refused, refused_by}
use Rattle.std.specs.Prelude.{Result, Ok, Err}
use Rattle.frame.specs.declared.Frame.{Frame}
use Rattle.frame.specs.declared.FrameRefusal.{FrameRefusal}
use Rattle.frame.specs.declared.FrameRefusal.TheVariants.{BlockCheck}
use Rattle.frame.specs.declared.FrameRefusal.TheVariants as F
use Rattle.frame.specs.Frame.{Parts, crc_ok, first_wrong, first_wrong_of, block_count, frame_size, body_of, decode_body, decode, fields_of, read_of}
use Rattle.frame.proofs.Laws.{passed-by}
use Rattle.frame.specs.WrongBlock.{user_count, block_at, FirstWrong, RightBefore15, CarriedIsFirst, FirstIsCarried}

-- ---- of some blocks

-- the block after w others
next-block : (w : ℕ) (b : List ℕ) → take 18 (drop (18 * w) (drop 18 b)) ≡ take 18 (drop (18 * suc w) b)
next-block w b =
    let e : 18 + 18 * w ≡ 18 * suc w = omega arith in
    ap (take 18) (drop-drop (18 * w) 18 b ∙ ap (λ (n : ℕ). drop n b) e)

pub wrong-is : (k : ℕ) (b : List ℕ) → first_wrong k b < k → crc_ok (take 18 (drop (18 * first_wrong k b) b)) ≡ false
unfolding first_wrong
wrong-is zero b h = absurd (omega arith)
wrong-is (suc k) b h = go (crc_ok (take 18 b)) (first_wrong k (drop 18 b)) refl (wrong-is k (drop 18 b)) h
  where
    go : (t : Bool) (w : ℕ) → crc_ok (take 18 b) ≡ t → (w < k → crc_ok (take 18 (drop (18 * w) (drop 18 b))) ≡ false) → cond t (suc w) 0 < suc k
        → crc_ok (take 18 (drop (18 * cond t (suc w) 0) b)) ≡ false
    go true w e others l = subst (λ (x : List ℕ). crc_ok x ≡ false) (next-block w b) (others (omega arith))
    go false w e others l = e

pub right-before : (k : ℕ) (b : List ℕ) (j : ℕ) → j < first_wrong k b → crc_ok (take 18 (drop (18 * j) b)) ≡ true
unfolding first_wrong
right-before zero b j h = absurd (omega arith)
right-before (suc k) b j h = go (crc_ok (take 18 b)) (first_wrong k (drop 18 b)) j refl (right-before k (drop 18 b)) h
  where
    go : (t : Bool) (w i : ℕ) → crc_ok (take 18 b) ≡ t → ((n : ℕ) → n < w → crc_ok (take 18 (drop (18 * n) (drop 18 b))) ≡ true) → i < cond t (suc w) 0
        → crc_ok (take 18 (drop (18 * i) b)) ≡ true
    go true w zero e others l = e
    go true w (suc i) e others l = subst (λ (x : List ℕ). crc_ok x ≡ true) (next-block i b) (others i (omega arith))
    go false w i e others l = absurd (omega arith)

-- ---- of a frame

not-by : (m k : ℕ) → ◌≡◌ {A = FrameOutcome Parts} (refused_by m) (refused (wrong_block k)) → ⊥
not-by m k e = let z : ◌≡◌ {A = ℕ} 0 1 = cc in omega arith

-- the test of the blocks was not, and its number is carried
stopped : (w c k : ℕ) (f : Parts) → cond (ltb w c) (refused (wrong_block w)) (accepted f) ≡ refused (wrong_block k) → (w ≡ k) × (w < c)
stopped w c k f e = go (ltb w c) refl e
  where
    go : (t : Bool) → ltb w c ≡ t → cond t (refused (wrong_block w)) (accepted f) ≡ refused (wrong_block k) → (w ≡ k) × (w < c)
    go true h x = (cc, ltb-true _ _ h)
    go false h x = let z : ◌≡◌ {A = ℕ} 0 1 = cc in absurd (omega arith)

wrong-block : (room : ℕ) (s : List ℕ) (k : ℕ) → decode room s ≡ refused (wrong_block k) → (first_wrong_of (user_count s) s ≡ k) × (first_wrong_of (user_count s) s < block_count (user_count s))
unfolding decode decode_body
wrong-block room s k e =
    let n : ℕ = user_count s in
    let a1 = passed-by (ltb room user_max) (refused_by 33) _ _ (not-by 33 k) e in
    let a2 = passed-by (ltb (length s) 10) (refused_by 11) _ _ (not-by 11 k) a1.1 in
    let a3 = passed-by (not (eqb (get_or s 0 0) 5)) (refused_by 12) _ _ (not-by 12 k) a2.1 in
    let a4 = passed-by (not (eqb (get_or s 1 0) 100)) (refused_by 12) _ _ (not-by 12 k) a3.1 in
    let a5 = passed-by (not (crc_ok (take 10 s))) (refused_by 13) _ _ (not-by 13 k) a4.1 in
    let a6 = passed-by (ltb (get_or s 2 0) 5) (refused_by 14) _ _ (not-by 14 k) a5.1 in
    let a7 = passed-by (ltb (length s) (frame_size n)) (refused_by 11) _ _ (not-by 11 k) a6.1 in
    stopped (first_wrong_of n s) (block_count n) k _ a7.1

-- what is refused by 15 with k has k as its first wrong block; the length byte is a byte, so k is at most 15
pub decoded-first : (room : ℕ) (s : List ℕ) (k : ℕ) → AreBytes s → decode room s ≡ refused (wrong_block k) → FirstWrong k s × (k ≤ 15)
decoded-first room s k bytes e =
    let n : ℕ = user_count s in
    let p = wrong-block room s k e in
    let b : get_or s 2 0 < 256 = bytes 2 in
    let l : k < block_count n = subst (λ (w : ℕ). w < block_count n) p.0 p.1 in (
      record {
        there = l;
        wrong = subst (λ (w : ℕ). crc_ok (block_at w s) ≡ false) p.0 (wrong-is (block_count n) (body_of n s) p.1);
        before = λ j h. right-before (block_count n) (body_of n s) j (subst (λ (w : ℕ). j < w) (sym p.0) h);
      },
      omega arith,
    )

-- ---- and back

both_ways : (t : Bool) → t ≡ true → t ≡ false → ⊥
both_ways true e h = let z : ◌≡◌ {A = ℕ} 0 1 = ap (λ (x : Bool). cond x 0 1) h in omega arith
both_ways false e h = let z : ◌≡◌ {A = ℕ} 1 0 = ap (λ (x : Bool). cond x 0 1) e in omega arith

-- there is only one first wrong block
only-first : (k : ℕ) (s : List ℕ) → FirstWrong k s → first_wrong_of (user_count s) s ≡ k
only-first k s h = go (ltb (first_wrong_of (user_count s) s) k) (ltb k (first_wrong_of (user_count s) s)) refl refl
  where
    go : (a b : Bool) → ltb (first_wrong_of (user_count s) s) k ≡ a → ltb k (first_wrong_of (user_count s) s) ≡ b → first_wrong_of (user_count s) s ≡ k
    go true b e f =
        let l = ltb-true _ _ e in
        absurd (both_ways _ (h.before (first_wrong_of (user_count s) s) l) (wrong-is (block_count (user_count s)) (body_of (user_count s) s) (omega (arith, l, h.there))))
    go false true e f = absurd (both_ways _ (right-before (block_count (user_count s)) (body_of (user_count s) s) k (ltb-true _ _ f)) h.wrong)
    go false false e f =
        let l = ltb-false (first_wrong_of (user_count s) s) k e in
        let m = ltb-false k (first_wrong_of (user_count s) s) f in
        omega (arith, l, m)

-- and such a block is carried
pub first-decoded : (room : ℕ) (s : List ℕ) (k : ℕ) → RightBefore15 room s → FirstWrong k s → decode room s ≡ refused (wrong_block k)
unfolding decode decode_body
first-decoded room s k right h =
    let n : ℕ = user_count s in
    rw (
      le-ltb room user_max right.lent,
      le-ltb (length s) 10 (omega (arith, right.whole)),
      eq-eqb _ _ right.start.0,
      eq-eqb _ _ right.start.1,
      right.header,
      le-ltb (get_or s 2 0) 5 right.long,
      le-ltb (length s) (frame_size n) right.whole,
      only-first k s h,
      lt-ltb k (block_count n) h.there,
    )

-- ---- about the call

no_fields : (o : FrameOutcome Parts) (why : Refusal) → refused why ≡ fields_of o → o ≡ refused why
no_fields (accepted f) why e = cc
no_fields (refused w) why e = cc

the-answer : (r : Result Frame FrameRefusal) (k : ℕ) → read_of r ≡ refused (wrong_block k) → r ≡ Err (BlockCheck k)
the-answer (Ok f) k e = cc
the-answer (Err F.TooShort) k e = cc
the-answer (Err F.Start) k e = cc
the-answer (Err F.HeaderCheck) k e = cc
the-answer (Err F.Length) k e = cc
the-answer (Err (F.BlockCheck b)) k e = cc
the-answer (Err F.OutputTooSmall) k e = cc

pub carried-is-first : CarriedIsFirst
unfolding CarriedIsFirst
carried-is-first r s out user k bytes got is =
    decoded-first (length out) s k bytes (no_fields _ (wrong_block k) (ap read_of (sym is) ∙ got.answer))

pub first-is-carried : FirstIsCarried
unfolding FirstIsCarried
first-is-carried r s out user k right h got = the-answer r k (got.answer ∙ ap fields_of (first-decoded (length out) s k right h))
