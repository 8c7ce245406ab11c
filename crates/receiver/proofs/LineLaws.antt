-- A whole line at once: the rule at each place, and one call against it.
-- Assumes nothing.
use mathlib.Core.Path.{◌≡◌, refl, sym, ap, ap₂, ◌∙◌, subst}
use mathlib.Core.Bool.{true, false}
use Prim.Native.Nat.{ℕ, zero, suc, ◌+◌, ◌-◌, ◌≤◌, ◌<◌}
use native.Mathlib.Omega.{arith}
use mathlib.Core.List.{List, [], ◌∷◌, ◌++◌, append-nil, append_assoc}
use lib.ListN.{length, take, drop}
use lib.Seq.{drop-nil}
use Rattle.laws.proofs.Choices.{by}
use Rattle.receiver.specs.Receiver.{rule, waits, moves_on, decided_by, Call, more, used_up, ends, goes_over}
use Rattle.receiver.specs.Line.{first_then, events_from}
use Rattle.receiver.proofs.RuleLaws.{waits-short, differ, moves, decided-at}

-- ---- the line from a place on

pub passed_over : (p k : ℕ) (l : List ℕ) → events_from p k l ≡ events_from (p + k) 0 (drop k l)
unfolding events_from
passed_over p k [] = ap (λ (l : List ℕ). events_from (p + k) 0 l) (sym (drop-nil k))
passed_over p zero (b ∷ l) = ap (λ (q : ℕ). events_from q 0 (b ∷ l)) (let e : p ≡ p + 0 = omega arith in e)
passed_over p (suc k) (b ∷ l) = passed_over (suc p) k l ∙ ap (λ (q : ℕ). events_from q 0 (drop k l)) (let e : suc p + k ≡ p + suc k = omega arith in e)

pub line-waits : (p : ℕ) (l : List ℕ) → waits l ≡ true → events_from p 0 l ≡ record { events = []; rest = l }
unfolding events_from
line-waits p [] w = refl
line-waits p (b ∷ l) w = rw w

-- the rule decides at this place
pub line-decides : (p : ℕ) (l : List ℕ) → waits l ≡ false
    → events_from p 0 l ≡ first_then (record { outcome = rule l; at = p + decided_by (rule l) l }) (events_from (p + moves_on (rule l) l) 0 (drop (moves_on (rule l) l) l))
unfolding events_from
line-decides p [] d = absurd (differ _ (waits-short [] (omega arith)) d)
line-decides p (b ∷ l) d = rw d (ap (first_then _) (passed_over (suc p) (m - 1) l ∙ ap₂ (λ (q : ℕ) (x : List ℕ). events_from q 0 x) place (ap (λ (k : ℕ). drop k (b ∷ l)) count)))
  where
    m : ℕ
    m = moves_on (rule (b ∷ l)) (b ∷ l)

    count : suc (m - 1) ≡ m
    count = let h : 1 ≤ m = (moves (b ∷ l) d).on in omega arith

    place : suc p + (m - 1) ≡ p + m
    place = let h : 1 ≤ m = (moves (b ∷ l) d).on in omega arith

-- ---- one call

-- a call waits on all of the piece, or ends at a byte of it
pub data Went (kept p : List ℕ) (c : Call) : Type 0 where
  waited : c ≡ used_up (length p) (kept ++ p) → Went kept p c
  ended : (j : ℕ) → j < length p → waits (kept ++ take (suc j) p) ≡ false
      → length (kept ++ take (suc j) p) ≡ decided_by (rule (kept ++ take (suc j) p)) (kept ++ take (suc j) p) → c ≡ ends (suc j) (kept ++ take (suc j) p) → Went kept p c

-- one byte more before
further : (kept p : List ℕ) (b : ℕ) (c c₁ : Call) → c ≡ more 1 c₁ → Went (kept ++ b ∷ []) p c₁ → Went kept (b ∷ p) c
further kept p b c c₁ e (waited w) =
    waited (e ∙ ap (more 1) w ∙ ap₂ used_up (let n : 1 + length p ≡ suc (length p) = omega arith in n) (append_assoc kept (b ∷ []) p))
further kept p b c c₁ e (ended j h d n w) =
    let a : (kept ++ b ∷ []) ++ take (suc j) p ≡ kept ++ take (suc (suc j)) (b ∷ p) = append_assoc kept (b ∷ []) (take (suc j) p) in
    ended (suc j) (omega arith) (ap waits (sym a) ∙ d) (subst (λ (s : List ℕ). length s ≡ decided_by (rule s) s) a n)
    (e ∙ ap (more 1) w ∙ ap₂ ends (let k : 1 + suc j ≡ suc (suc j) = omega arith in k) a)

pub goes : (kept p : List ℕ) → waits kept ≡ true → Went kept p (goes_over kept p)
unfolding goes_over
goes kept [] w = waited (ap (used_up 0) (sym (append-nil kept)))
goes kept (b ∷ p) w =
    by (waits (kept ++ b ∷ []))
    (λ t. further kept p b _ (goes_over (kept ++ b ∷ []) p) (rw t) (goes (kept ++ b ∷ []) p t))
    (λ d. ended 0 (omega arith) d (decided-at kept b w d) (rw d))
