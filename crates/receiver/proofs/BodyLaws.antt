-- A call with a part of a header kept, and one with a right header: bytes are taken up to ten, and up to the frame's stated size; the last of
-- them decides.
-- Assumes nothing.
use mathlib.Core.Path.{◌≡◌, ap, ◌∙◌}
use mathlib.Core.Bool.{true, false}
use Prim.Native.Nat.{ℕ, ◌+◌, ◌-◌, ◌≤◌, ◌<◌, min}
use native.Mathlib.Omega.{arith}
use mathlib.Core.List.{List, ◌++◌}
use lib.ListN.{length, get_or, take, drop, length-append}
use lib.Seq.{get_or-take, length-take-le}
use Rattle.frame.specs.Frame.{frame_size}
use Rattle.receiver.specs.Receiver.{rule, waits, stated_size, decided_by, more, ends, goes_over, Begun}
use Rattle.receiver.proofs.RuleLaws.{waits-short, Wanting, wanting}
use Rattle.receiver.proofs.CallLaws.{goes_further, deciding, deciding-at}

-- ---- a part of a header

module _ (m : List ℕ) (n : ℕ) (b : Begun n m) (few : n < 10) (p : List ℕ) (k : ℕ) (e : k ≡ min (10 - n) (length p)) where
  part-long : (j : ℕ) → j ≤ length p → length (take n m ++ take j p) ≡ n + j
  part-long j h = length-append (take n m) (take j p) ∙ omega (arith, b.there, length-take-le j p h)

  part-waits : (j : ℕ) → j ≤ length p → n + j < 10 → waits (take n m ++ take j p) ≡ true
  part-waits j h l = waits-short (take n m ++ take j p) (omega (arith, part-long j h))

  pub part-used-up : n + k < 10 → (k ≡ length p) × (waits (take n m ++ take k p) ≡ true)
  part-used-up h = (omega arith, part-waits k (omega arith) h)

  pub ten-is : 10 ≤ n + k → n + k ≡ 10
  ten-is h = omega arith

  pub ten-goes : waits (take n m ++ take k p) ≡ true → goes_over (take n m) p ≡ more k (goes_over (take n m ++ take k p) (drop k p))
  ten-goes w = goes_further (take n m) p k (omega arith) w

  pub ten-ends : 10 ≤ n + k → waits (take n m ++ take k p) ≡ false → goes_over (take n m) p ≡ ends k (take n m ++ take k p)
  ten-ends h d = deciding (take n m) p k (omega arith) (omega arith) (part-waits (k - 1) (omega arith) (omega arith)) d

  pub ten-at : 10 ≤ n + k → waits (take n m ++ take k p) ≡ false → length (take n m ++ take k p) ≡ decided_by (rule (take n m ++ take k p)) (take n m ++ take k p)
  ten-at h d = deciding-at (take n m) p k (omega arith) (omega arith) (part-waits (k - 1) (omega arith) (omega arith)) d

-- ---- a right header

module _ (m : List ℕ) (n : ℕ) (b : Begun n m) (ten : 10 ≤ n) where
  wants : Wanting (take n m)
  wants = wanting (take n m) (omega (arith, b.there)) b.waiting

  -- the length byte
  byte : get_or (take n m) 2 0 ≡ get_or m 2 0
  byte = get_or-take n m 2 0 (omega arith)

  pub least : 5 ≤ get_or m 2 0
  least = let h : 5 ≤ get_or (take n m) 2 0 = wants.least in omega (arith, byte)

  pub sized : stated_size (take n m) ≡ frame_size (get_or m 2 0 - 5)
  sized = ap (λ (x : ℕ). frame_size (x - 5)) byte

  pub wanted : n < frame_size (get_or m 2 0 - 5)
  wanted = let h : length (take n m) < stated_size (take n m) = wants.wants in omega (arith, sized, b.there)

  module _ (p : List ℕ) (size k : ℕ) (z : size ≡ frame_size (get_or m 2 0 - 5)) (e : k ≡ min (size - n) (length p)) where
    long : (j : ℕ) → j ≤ length p → length (take n m ++ take j p) ≡ n + j
    long j h = length-append (take n m) (take j p) ∙ omega (arith, b.there, length-take-le j p h)

    below : (j : ℕ) → j ≤ length p → n + j < size → waits (take n m ++ take j p) ≡ true
    below j h l = wants.below (take j p) (omega (arith, long j h, sized))

    full : size ≤ n + k → waits (take n m ++ take k p) ≡ false
    full h = wants.full (take k p) (omega (arith, long k (omega arith), sized))

    pub used-up : n + k < size → (k ≡ length p) × (waits (take n m ++ take k p) ≡ true)
    used-up h = (omega arith, below k (omega arith) h)

    pub whole_is : size ≤ n + k → n + k ≡ size
    whole_is h = omega (arith, wanted)

    pub whole-ends : size ≤ n + k → goes_over (take n m) p ≡ ends k (take n m ++ take k p)
    whole-ends h = deciding (take n m) p k (omega (arith, wanted)) (omega arith) (below (k - 1) (omega arith) (omega (arith, wanted))) (full h)

    pub whole-at : size ≤ n + k → length (take n m ++ take k p) ≡ decided_by (rule (take n m ++ take k p)) (take n m ++ take k p)
    whole-at h = deciding-at (take n m) p k (omega (arith, wanted)) (omega arith) (below (k - 1) (omega arith) (omega (arith, wanted))) (full h)
