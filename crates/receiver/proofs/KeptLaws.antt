-- What is kept in lent memory: bytes taken behind it, a byte given up, and how a call ends.
-- Assumes nothing.
use mathlib.Core.Path.{◌≡◌, refl, sym, ap, ap₂, ◌∙◌, subst}
use mathlib.Core.Bool.{true, false, not}
use Prim.Native.Nat.{ℕ, ◌+◌, ◌≤◌, ◌<◌}
use native.Mathlib.Omega.{arith}
use mathlib.Core.List.{List, [], ◌∷◌, ◌++◌}
use lib.Dec.{ltb, eqb}
use borrow.Author.Tests.{lt-ltb, le-ltb, not-false}
use Rattle.laws.proofs.Choices.{split}
use lib.ListN.{length, take, drop, length-append, length-drop, drop_of_length-le}
use lib.Seq.{length-take-le, take_at}
use Rattle.octets.specs.Bytes.{splice}
use Rattle.octets.proofs.Splice.{splice-parts}
use Rattle.frame.specs.FrameOutcome.{Refusal, by, wrong_block, FrameOutcome, accepted, refused, number_of}
use Rattle.frame.specs.Frame.{Parts, read_of, checked_of}
use Rattle.std.specs.Prelude.{Result, Ok, Err}
use Rattle.frame.specs.declared.Frame.{Frame}
use Rattle.frame.specs.declared.FrameRefusal.{FrameRefusal}
use Rattle.receiver.specs.Receiver.{rule, waits, moves_on, decided_by, kept_max, kept_in, kept_after, Begun}
use Rattle.receiver.proofs.RuleLaws.{waits-short}

-- ---- the view

pub kept-many : (n : ℕ) (m : List ℕ) → kept_max < n → kept_in n m ≡ []
unfolding kept_in
kept-many n m h = rw (lt-ltb kept_max n h)

pub kept-is : (n : ℕ) (m : List ℕ) → n ≤ kept_max → waits (take n m) ≡ true → kept_in n m ≡ take n m
unfolding kept_in
kept-is n m h w = rw (le-ltb kept_max n h, w)

pub kept-none : (n : ℕ) (m : List ℕ) → n ≤ kept_max → waits (take n m) ≡ false → kept_in n m ≡ []
unfolding kept_in
kept-none n m h w = rw (le-ltb kept_max n h, w)

-- what is kept is something that the rule calls 11, whatever the memory
pub kept-waits : (n : ℕ) (m : List ℕ) → waits (kept_in n m) ≡ true
unfolding kept_in
kept-waits n m =
    split (λ (l : List ℕ). waits l ≡ true) (ltb kept_max n) (λ _. none)
    (λ _. split (λ (l : List ℕ). waits l ≡ true) (not (waits (take n m))) (λ _. none) (λ h. not-false _ h))
  where
    none : waits [] ≡ true
    none = waits-short [] (omega arith)

-- nothing kept
pub begun-zero : (m : List ℕ) → Begun 0 m
begun-zero m = record { there = refl; most = omega arith; waiting = waits-short [] (omega arith) }

-- less than a header
pub begun-few : (n : ℕ) (m : List ℕ) → n < 10 → n ≤ length m → Begun n m
begun-few n m few l =
    let e : length (take n m) ≡ n = length-take-le n m l in
    record { there = e; most = omega arith; waiting = waits-short (take n m) (omega (arith, e)) }

pub kept-zero : (m : List ℕ) → kept_in 0 m ≡ []
kept-zero m = kept-is 0 m (omega arith) (waits-short [] (omega arith))

-- ---- what was checked

checked-number : (r : Result Frame FrameRefusal) (s : List ℕ) → number_of (checked_of r s) ≡ number_of (read_of r)
checked-number (Ok f) s = refl
checked-number (Err why) s = refl

pub waits-checked : (r : Result Frame FrameRefusal) (s : List ℕ) → checked_of r s ≡ rule s → waits s ≡ eqb (number_of (read_of r)) 11
unfolding waits
waits-checked r s e = ap (λ (o : FrameOutcome Parts). eqb (number_of o) 11) (sym e) ∙ ap (λ (n : ℕ). eqb n 11) (checked-number r s)

-- ---- memory

module _ (m p : List ℕ) (from k : ℕ) (room : from + k ≤ length m) (there : k ≤ length p) where
  length_both : length (take from m ++ take k p) ≡ from + k
  length_both = length-append (take from m) (take k p) ∙ ap₂ (λ (x y : ℕ). x + y) (length-take-le from m (omega arith)) (length-take-le k p there)

  -- bytes of a piece behind those of the memory
  pub gathered : take (from + k) (splice m from (take k p)) ≡ take from m ++ take k p
  gathered =
      let l : from + length (take k p) ≤ length m = simp (length-take-le k p there) (omega arith) in
      ap (take (from + k)) (splice-parts m from (take k p) l)
      ∙ take_at (take from m ++ take k p) (drop (from + length (take k p)) m) (from + k) length_both

  pub gathered-length : length (take (from + k) (splice m from (take k p))) ≡ from + k
  gathered-length = ap length gathered ∙ length_both

-- the first of ten bytes is given up
pub nine-left : (m : List ℕ) → drop 1 (take 10 m) ≡ take 9 (drop 1 m)
nine-left [] = refl
nine-left (x ∷ m) = refl

-- ---- how a call ends

-- so many bytes are kept, these
pub record Left (n : ℕ) (m rest : List ℕ) : Type 0 where
  pub count : n ≡ length rest
  pub kept : kept_in n m ≡ rest

-- past the frame nothing is left
none_left : (s m : List ℕ) (k : ℕ) → length s ≡ k → Left 0 m (drop k s)
none_left s m k e =
    let h : length s ≤ k = omega arith in
    let z : drop k s ≡ [] = drop_of_length-le s h in
    record { count = sym (ap length z); kept = kept-zero m ∙ sym z }

pub left-accepted : (s m : List ℕ) (f : Parts) → rule s ≡ accepted f → length s ≡ decided_by (rule s) s → Left 0 m (drop (moves_on (rule s) s) s)
left-accepted s m f e l =
    subst (λ (o : FrameOutcome Parts). length s ≡ decided_by o s → Left 0 m (drop (moves_on o s) s)) (sym e) (λ h. none_left s m _ h) l

left_by : (why : Refusal) (n : ℕ) (m m₁ : List ℕ) → length (take n m) ≡ n → n ≡ decided_by (refused why) (take n m)
    → take (kept_after why) m₁ ≡ take (kept_after why) (drop 1 m) → Left (kept_after why) m₁ (drop (moves_on (refused why) (take n m)) (take n m))
left_by (by k) n m m₁ l e t =
    let s : drop 1 (take n m) ≡ take 9 m₁ = ap (λ (j : ℕ). drop 1 (take j m)) e ∙ nine-left m ∙ sym t in
    let nine : length (drop 1 (take n m)) ≡ 9 = length-drop 1 (take n m) ∙ omega arith in
    let nine₁ : length (take 9 m₁) ≡ 9 = ap length (sym s) ∙ nine in
    record { count = sym nine; kept = kept-is 9 m₁ (omega arith) (waits-short (take 9 m₁) (omega arith)) ∙ sym s }
left_by (wrong_block b) n m m₁ l e t = none_left (take n m) m₁ _ (l ∙ e)

pub left-refused : (why : Refusal) (n : ℕ) (m m₁ : List ℕ) → rule (take n m) ≡ refused why → length (take n m) ≡ n → n ≡ decided_by (rule (take n m)) (take n m)
    → take (kept_after why) m₁ ≡ take (kept_after why) (drop 1 m) → Left (kept_after why) m₁ (drop (moves_on (rule (take n m)) (take n m)) (take n m))
left-refused why n m m₁ r l e t =
    subst (λ (o : FrameOutcome Parts). n ≡ decided_by o (take n m) → Left (kept_after why) m₁ (drop (moves_on o (take n m)) (take n m))) (sym r) (λ h. left_by why n m m₁ l h t) e
