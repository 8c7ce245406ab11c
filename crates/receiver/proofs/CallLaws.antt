-- One call over a piece: the bytes that it waits on at once, and the byte that decides.
-- Assumes nothing.
use mathlib.Core.Path.{◌≡◌, refl, sym, ap, ap₂, ◌∙◌, subst}
use mathlib.Core.Bool.{true, false}
use Prim.Native.Nat.{ℕ, suc, ◌+◌, ◌-◌, ◌≤◌, ◌<◌}
use native.Mathlib.Omega.{arith}
use mathlib.Core.List.{List, [], ◌∷◌, ◌++◌, append-nil, append_assoc}
use lib.ListN.{length, get_or, take, drop, take-append-drop}
use borrow.Author.Tests.{lt-ltb, le-ltb}
use Rattle.laws.specs.Limits.{user_max}
use lib.Seq.{take_all, length-take-le, take-suc, drop-cons}
use Rattle.frame.specs.FrameOutcome.{refused_by}
use Rattle.receiver.specs.declared.Reception.{Reception}
use Rattle.receiver.specs.Receiver.{rule, waits, decided_by, Call, more, used_up, ends, goes_over, receiving, kept_max, kept_in, waiting, decided, piece_fields, answer_of, lent_after, Meets, PieceReceived}
use Rattle.receiver.proofs.RuleLaws.{waits-prefix, decided-at}
use Rattle.receiver.proofs.KeptLaws.{kept-is}

-- ---- how many bytes were taken

-- the same call, with as many bytes taken
taken_is : (c : Call) (n m : ℕ) → n ≡ m → ◌≡◌ {A = Call} (record { outcome = c.outcome; taken = n; kept = c.kept }) (record { outcome = c.outcome; taken = m; kept = c.kept })
taken_is c n m e = ap (λ (k : ℕ). record { outcome = c.outcome; taken = k; kept = c.kept }) e

pub more-none : (c : Call) → more 0 c ≡ c
more-none c = taken_is c (0 + c.taken) c.taken (omega arith)

more-more : (j k : ℕ) (c : Call) → more j (more k c) ≡ more (j + k) c
more-more j k c = taken_is c (j + (k + c.taken)) (j + k + c.taken) (omega arith)

-- ---- bytes that are waited on are taken

pub goes_on : (p kept q : List ℕ) → waits (kept ++ p) ≡ true → goes_over kept (p ++ q) ≡ more (length p) (goes_over (kept ++ p) q)
unfolding goes_over
goes_on [] kept q w = ap (λ (l : List ℕ). goes_over l q) (sym (append-nil kept)) ∙ sym (more-none _)
goes_on (b ∷ p) kept q w =
    let e : kept ++ b ∷ p ≡ (kept ++ b ∷ []) ++ p = sym (append_assoc kept (b ∷ []) p) in
    let w₁ : waits ((kept ++ b ∷ []) ++ p) ≡ true = ap waits (sym e) ∙ w in
    rw (waits-prefix (kept ++ b ∷ []) p w₁)
    (ap (more 1) (goes_on p (kept ++ b ∷ []) q w₁) ∙ more-more 1 (length p) _ ∙ ap₂ (λ (n : ℕ) (l : List ℕ). more n (goes_over l q)) (let n : 1 + length p ≡ suc (length p) = omega arith in n) (sym e))

used : (kept : List ℕ) (n : ℕ) → more n (goes_over kept []) ≡ used_up n kept
unfolding goes_over
used kept n = taken_is (used_up 0 kept) (n + 0) n (omega arith)

module _ (kept piece : List ℕ) (k : ℕ) where
  -- the whole piece is waited on
  pub goes-used : length piece ≤ k → waits (kept ++ take k piece) ≡ true → goes_over kept piece ≡ used_up (length piece) (kept ++ take k piece)
  goes-used h w =
      let a : take k piece ≡ piece = take_all k piece h in
      let w₁ : waits (kept ++ piece) ≡ true = ap (λ (l : List ℕ). waits (kept ++ l)) (sym a) ∙ w in
      ap (goes_over kept) (sym (append-nil piece)) ∙ goes_on piece kept [] w₁ ∙ used (kept ++ piece) (length piece) ∙ ap (λ (l : List ℕ). used_up (length piece) (kept ++ l)) (sym a)

  -- some bytes of it are
  pub goes_further : k ≤ length piece → waits (kept ++ take k piece) ≡ true → goes_over kept piece ≡ more k (goes_over (kept ++ take k piece) (drop k piece))
  goes_further h w =
      ap (goes_over kept) (sym (take-append-drop k piece)) ∙ goes_on (take k piece) kept (drop k piece) w
      ∙ ap (λ (n : ℕ). more n (goes_over (kept ++ take k piece) (drop k piece))) (length-take-le k piece h)

-- the byte behind them decides
module _ (kept piece : List ℕ) (j : ℕ) (h : j < length piece) (w : waits (kept ++ take j piece) ≡ true) where
  -- what is kept and the bytes up to that one
  upto : kept ++ take (suc j) piece ≡ (kept ++ take j piece) ++ get_or piece j 0 ∷ []
  upto = ap (λ (l : List ℕ). kept ++ l) (take-suc piece j 0 h) ∙ sym (append_assoc kept (take j piece) (get_or piece j 0 ∷ []))

  decides : (s : List ℕ) (b : ℕ) (q : List ℕ) → waits (s ++ b ∷ []) ≡ false → goes_over s (b ∷ q) ≡ ends 1 (s ++ b ∷ [])
  unfolding goes_over
  decides s b q d = rw d

  pub goes_end : waits (kept ++ take (suc j) piece) ≡ false → goes_over kept piece ≡ ends (suc j) (kept ++ take (suc j) piece)
  goes_end d =
      let d₁ : waits ((kept ++ take j piece) ++ get_or piece j 0 ∷ []) ≡ false = ap waits (sym upto) ∙ d in
      goes_further kept piece j (omega arith) w
      ∙ ap (λ (l : List ℕ). more j (goes_over (kept ++ take j piece) l)) (drop-cons piece j 0 h)
      ∙ ap (more j) (decides (kept ++ take j piece) (get_or piece j 0) (drop (suc j) piece) d₁ ∙ ap (ends 1) (sym upto))
      ∙ taken_is (ends 1 (kept ++ take (suc j) piece)) (j + 1) (suc j) (omega arith)

  pub read_all : waits (kept ++ take (suc j) piece) ≡ false → length (kept ++ take (suc j) piece) ≡ decided_by (rule (kept ++ take (suc j) piece)) (kept ++ take (suc j) piece)
  read_all d = subst (λ (s : List ℕ). length s ≡ decided_by (rule s) s) (sym upto) (decided-at (kept ++ take j piece) (get_or piece j 0) w (ap waits (sym upto) ∙ d))

-- ---- a call from what was kept, by the memory after it

-- the same with the byte's number, from 1
module _ (kept p : List ℕ) (k : ℕ) (pos : 0 < k) (there : k ≤ length p) (w : waits (kept ++ take (k - 1) p) ≡ true) (d : waits (kept ++ take k p) ≡ false) where
  before : suc (k - 1) ≡ k
  before = omega arith

  pub deciding : goes_over kept p ≡ ends k (kept ++ take k p)
  deciding =
      subst (λ (j : ℕ). waits (kept ++ take j p) ≡ false → goes_over kept p ≡ ends j (kept ++ take j p)) before (λ h. goes_end kept p (k - 1) (omega arith) w h) d

  pub deciding-at : length (kept ++ take k p) ≡ decided_by (rule (kept ++ take k p)) (kept ++ take k p)
  deciding-at =
      subst (λ (j : ℕ). waits (kept ++ take j p) ≡ false → length (kept ++ take j p) ≡ decided_by (rule (kept ++ take j p)) (kept ++ take j p)) before (λ h. read_all kept p (k - 1) (omega arith) w h) d

-- the piece is used up: t bytes were taken before it
pub waiting-meets : (r : Reception) (kept p m out : List ℕ) (t n k : ℕ) → answer_of r.answer ≡ waiting → r.taken ≡ t + k → r.kept ≡ n + k
    → n + k ≤ kept_max → length (take (n + k) m) ≡ n + k → take (n + k) m ≡ kept ++ take k p → k ≡ length p → waits (kept ++ take k p) ≡ true
    → Meets r (more t (goes_over kept p)) m out out
waiting-meets r kept p m out t n k heard taken count most l e all w =
    let h : length p ≤ k = omega arith in
    let c : more t (goes_over kept p) ≡ more t (used_up (length p) (kept ++ take k p)) = ap (more t) (goes-used kept p k h w) in
    subst (λ (x : Call). Meets r x m out out) (sym c)
    (record {
      answer = heard;
      taken = taken ∙ ap (λ (j : ℕ). t + j) all;
      count = count ∙ sym l ∙ ap length e;
      kept = ap (λ (j : ℕ). kept_in j m) count ∙ kept-is (n + k) m most (ap waits e ∙ w) ∙ e;
      lent = refl;
    })

-- ---- the whole call

pub receiving-33 : (room : ℕ) (kept p : List ℕ) → room < user_max → receiving room kept p ≡ record { outcome = decided (refused_by 33); taken = 0; kept = kept }
unfolding receiving
receiving-33 room kept p h = rw (lt-ltb room user_max h)

pub receiving-is : (room : ℕ) (kept p : List ℕ) → user_max ≤ room → receiving room kept p ≡ goes_over kept p
unfolding receiving
receiving-is room kept p h = rw (le-ltb room user_max h)

-- 33: nothing is taken, and nothing changes
pub received-lent : (r : Reception) (n : ℕ) (m p out : List ℕ) → length out < user_max → answer_of r.answer ≡ decided (refused_by 33) → r.taken ≡ 0 → r.kept ≡ n
    → PieceReceived r n m m p out out
received-lent r n m p out h heard taken kept =
    let c = receiving-33 (length out) (kept_in n m) p h in
    record {
      answer = heard ∙ ap (λ (x : Call). piece_fields x.outcome) (sym c);
      taken = taken ∙ ap (λ (x : Call). x.taken) (sym c);
      count = kept ∙ sym (rw (lt-ltb (length out) user_max h));
      kept = ap (λ (k : ℕ). kept_in k m) kept ∙ ap (λ (x : Call). x.kept) (sym c);
      untouched = λ _. refl;
      lent = ap (λ (x : Call). lent_after out x.outcome) (sym c);
    }

-- what the memory keeps, and the piece
pub received-over : (r : Reception) (n k : ℕ) (m m₁ p out out₁ : List ℕ) → user_max ≤ length out → take k m ≡ kept_in n m → Meets r (goes_over (take k m) p) m₁ out out₁
    → PieceReceived r n m m₁ p out out₁
received-over r n k m m₁ p out out₁ h e x =
    let c : goes_over (take k m) p ≡ receiving (length out) (kept_in n m) p = ap (λ (l : List ℕ). goes_over l p) e ∙ sym (receiving-is (length out) (kept_in n m) p h) in
    record {
      answer = x.answer ∙ ap (λ (y : Call). piece_fields y.outcome) c;
      taken = x.taken ∙ ap (λ (y : Call). y.taken) c;
      count = x.count ∙ ap (λ (y : Call). length y.kept) c ∙ sym (rw (le-ltb (length out) user_max h));
      kept = x.kept ∙ ap (λ (y : Call). y.kept) c;
      untouched = λ l. absurd (omega arith);
      lent = x.lent ∙ ap (λ (y : Call). lent_after out y.outcome) c;
    }
