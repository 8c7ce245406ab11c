-- What the station refuses by 15 carries the first wrong block and is counted by it alone; by the laws of frame reading.
-- Assumes nothing.
use mathlib.Core.Path.{◌≡◌, sym, ap, ◌∙◌}
use Prim.Native.Nat.{ℕ, ◌<◌}
use native.Mathlib.Omega.{arith}
use mathlib.Core.List.{List}
use lib.ListN.{length, length-set}
use lib.Seq.{get_or-set_same, get_or-set_other}
use Rattle.frame.specs.FrameOutcome.{wrong_block, FrameOutcome, accepted, refused}
use Rattle.frame.specs.Frame.{Parts, decode}
use Rattle.frame.proofs.WrongBlock.{decoded-first, first-decoded}
use Rattle.frame.specs.declared.FrameRefusal.TheVariants.{BlockCheck}
use Rattle.link.specs.declared.Station.{Station}
use Rattle.link.specs.declared.LineRecord.{LineRecord}
use Rattle.link.specs.declared.Taken.{Taken}
use Rattle.link.specs.declared.TakeRefusal.{TakeRefusal}
use Rattle.link.specs.declared.TakeRefusal.TheVariants.{Frame}
use Rattle.std.specs.Prelude.{Result, Err}
use Rattle.link.specs.Station.{LinkDecision, hands, replies, not_taken, addressed, Action, user_data, reply, action_of, takes, station, link_answer, taken_of, FrameTaken, block_counted, counted_of}
use Rattle.link.specs.BlockCounts.{CountedAlone, TakenIsFirst, FirstIsTaken, OthersCountNone}
use Rattle.link.proofs.Laws.{taken-counted, taken-one, blocks-other}

-- a frame that was read is never refused by 15
not-decided : (v : LinkDecision) (u : List ℕ) (k : ℕ) → action_of v u ≡ refused (wrong_block k) → ⊥
not-decided hands u k e = let z : ◌≡◌ {A = ℕ} 0 1 = cc in omega arith
not-decided (replies c) u k e = let z : ◌≡◌ {A = ℕ} 0 1 = cc in omega arith
not-decided not_taken u k e = let z : ◌≡◌ {A = ℕ} 0 1 = cc in omega arith

handed-on : (st : Station) (o : FrameOutcome Parts) (k : ℕ) → takes st o ≡ refused (wrong_block k) → o ≡ refused (wrong_block k)
handed-on st (accepted f) k e = absurd (not-decided (addressed st f.control f.destination f.source (length f.user)) f.user k e)
handed-on st (refused why) k e = cc

no_answer : (o : FrameOutcome Action) (k : ℕ) → refused (wrong_block k) ≡ link_answer o → o ≡ refused (wrong_block k)
no_answer (accepted (user_data u)) k e = cc
no_answer (accepted (reply c)) k e = cc
no_answer (refused why) k e = cc

-- what the answer carries is what the station's rule gives
taken-wrong : (t : Result Taken TakeRefusal) (st : Station) (s d d' : List ℕ) (k : ℕ) → FrameTaken t st s d d' → t ≡ Err (Frame (BlockCheck k)) → station (length d) st s ≡ refused (wrong_block k)
taken-wrong t st s d d' k got is = no_answer _ k (ap taken_of (sym is) ∙ got.answer)

counted-alone : (counts : List ℕ) (k : ℕ) → k < length counts → CountedAlone k counts (block_counted counts k)
counted-alone counts k h =
    record {
      size = length-set counts k _;
      one = get_or-set_same counts k _ 0 h;
      others = λ j other. get_or-set_other counts k j _ 0 other;
    }

pub taken-is-first : TakenIsFirst
unfolding TakenIsFirst station
taken-is-first t l l₁ st s out user k bytes sixteen got is =
    let e = taken-wrong t st s out user k got.taken is in
    let p = decoded-first (length out) s k bytes (handed-on st (decode (length out) s) k e) in
    let c : l₁.blocks ≡ block_counted l.blocks k = ap (λ (x : LineRecord). x.blocks) (got.line ∙ ap (counted_of l) e) in
    let h : k < length l.blocks = omega (arith, sixteen, p.1) in
    (p.0, (p.1, rw c (counted-alone l.blocks k h)))

pub first-is-taken : FirstIsTaken
unfolding FirstIsTaken station
first-is-taken t l l₁ st s out user k right h got =
    taken-one t (Err (Frame (BlockCheck k))) (got.taken.answer ∙ ap (λ (o : FrameOutcome Parts). link_answer (takes st o)) (first-decoded (length out) s k right h))

pub others-count-none : OthersCountNone
unfolding OthersCountNone
others-count-none t l l₁ st s out user got other =
    ap (λ (x : LineRecord). x.blocks) (got.line ∙ sym (taken-counted l t st s out user got.taken)) ∙ sym (blocks-other l.blocks t other)
