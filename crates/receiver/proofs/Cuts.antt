-- However a line is cut into pieces, the calls give what the rule says at each of its places.
-- Assumes nothing.
use mathlib.Core.Path.{◌≡◌, refl, sym, ap, ap₂, ◌∙◌, subst}
use mathlib.Core.Bool.{false}
use Prim.Native.Nat.{ℕ, zero, suc, ◌+◌, ◌-◌, ◌≤◌, ◌<◌}
use native.Mathlib.Omega.{arith}
use mathlib.Core.List.{List, [], ◌∷◌, ◌++◌, append-nil, append_assoc}
use lib.Dec.{ltb}
use borrow.Author.Tests.{ltb-true, ltb-false}
use lib.ListN.{length, take, drop, length-append, length-drop, take-append-drop}
use lib.Seq.{drop-append-le, length-take-le, take-append_seam}
use Rattle.laws.specs.Limits.{user_max}
use Rattle.laws.proofs.Choices.{by}
use Rattle.octets.specs.Bytes.{AreBytes}
use Rattle.octets.proofs.Splice.{stored-splice}
use Rattle.octets.proofs.Le.{take-bytes, drop-bytes}
use Rattle.frame.specs.FrameOutcome.{FrameOutcome, accepted, refused, refused_by, number_of}
use Rattle.frame.specs.Frame.{Parts, parts, Fields, fields, fields_of, read_of}
use Rattle.std.specs.Prelude.{Result, Ok, Err, Option, Some, None}
use Rattle.frame.specs.declared.Frame.{Frame}
use Rattle.frame.specs.declared.FrameRefusal.{FrameRefusal}
use Rattle.frame.specs.declared.FrameRefusal.TheVariants.{OutputTooSmall}
use Rattle.frame.specs.declared.FrameRefusal.TheVariants as F
use Rattle.frame.proofs.RoundTrip.{read-most}
use Rattle.receiver.specs.declared.Reception.{Reception}
use Rattle.receiver.specs.Receiver.{rule, waits, moves_on, decided_by, waiting, decided, Call, goes_over, receiving, kept_in, piece_fields, answer_of, lent_after, PieceReceived}
use Rattle.receiver.specs.Line.{LineEvent, LineEvents, first_then, events_from, events_of, outcome_in, Receives, done, uses_up, answers, refuses33, joined, ReceivesTheLine, CutAlike, Progresses, ReceivedWhole, ReceivesEnd}
use Rattle.receiver.proofs.RuleLaws.{waits-prefix, differ, moves, same-moves, never-33}
use Rattle.receiver.proofs.KeptLaws.{kept-waits}
use Rattle.receiver.proofs.CallLaws.{receiving-33, receiving-is}
use Rattle.receiver.proofs.LineLaws.{line-waits, line-decides, Went, waited, ended, goes}

-- ---- what a call answers

-- what a call decided is what the rule says, with its user data out of the lent bytes
said-is : (x : Result Frame FrameRefusal) (o : FrameOutcome Parts) (out out₁ : List ℕ) → read_of x ≡ fields_of o → out₁ ≡ lent_after out (decided o)
    → ((f : Parts) → o ≡ accepted f → length f.user ≤ length out) → outcome_in x out₁ ≡ o
said-is (Ok g) (accepted f) out out₁ e l room =
    let y : fields g.control g.destination g.source g.len ≡ fields f.control f.destination f.source (length f.user) = cc in
    let u : take g.len out₁ ≡ f.user = ap₂ take (ap (λ (z : Fields). z.len) y) l ∙ stored-splice out 0 f.user (let h = room f refl in omega arith) in
    λ k. accepted (parts (y k).control (y k).destination (y k).source (u k))
said-is (Ok g) (refused why) out out₁ e l room = cc
said-is (Err why) (accepted f) out out₁ e l room = cc
said-is (Err why) (refused y) out out₁ e l room = cc

waits-not : (o : FrameOutcome Fields) → waiting ≡ decided o → ⊥
waits-not o e = let z : ◌≡◌ {A = ℕ} 0 1 = cc in omega arith

-- a refusal by 33 is the one that has this number
only-33 : (x : Result Frame FrameRefusal) → read_of x ≡ refused_by 33 → x ≡ Err OutputTooSmall
only-33 (Ok f) e = cc
only-33 (Err F.TooShort) e = let z : ◌≡◌ {A = ℕ} 11 33 = ap number_of e in absurd (omega arith)
only-33 (Err F.Start) e = let z : ◌≡◌ {A = ℕ} 12 33 = ap number_of e in absurd (omega arith)
only-33 (Err F.HeaderCheck) e = let z : ◌≡◌ {A = ℕ} 13 33 = ap number_of e in absurd (omega arith)
only-33 (Err F.Length) e = let z : ◌≡◌ {A = ℕ} 14 33 = ap number_of e in absurd (omega arith)
only-33 (Err (F.BlockCheck b)) e = let z : ◌≡◌ {A = ℕ} 15 33 = ap number_of e in absurd (omega arith)
only-33 (Err F.OutputTooSmall) e = refl

-- one call, by its outcome
module _ (r : Reception) (n : ℕ) (m m₁ p out out₁ : List ℕ) (c : PieceReceived r n m m₁ p out out₁) where
  abbrev call : Call
  call = receiving (length out) (kept_in n m) p

  over : user_max ≤ length out → call ≡ goes_over (kept_in n m) p
  over h = receiving-is (length out) (kept_in n m) p h

  -- it waited: all of the piece is kept
  record Waited : Type 0 where
    kept : kept_in r.kept m₁ ≡ kept_in n m ++ p
    taken : r.taken ≡ length p

  -- it decided on the bytes s of the line, the last of them being the last that was taken
  record Ended (x : Result Frame FrameRefusal) : Type 0 where
    j : ℕ
    inside : j < length p
    room : user_max ≤ length out
    decides : waits (kept_in n m ++ take (suc j) p) ≡ false
    at : length (kept_in n m ++ take (suc j) p) ≡ decided_by (rule (kept_in n m ++ take (suc j) p)) (kept_in n m ++ take (suc j) p)
    answer : read_of x ≡ fields_of (rule (kept_in n m ++ take (suc j) p))
    lent : out₁ ≡ lent_after out (decided (rule (kept_in n m ++ take (suc j) p)))
    kept : kept_in r.kept m₁ ≡ drop (moves_on (rule (kept_in n m ++ take (suc j) p)) (kept_in n m ++ take (suc j) p)) (kept_in n m ++ take (suc j) p)
    taken : r.taken ≡ suc j

  -- 33: nothing was taken, and the same bytes are kept
  record Same : Type 0 where
    kept : kept_in r.kept m₁ ≡ kept_in n m
    taken : r.taken ≡ 0

  says_is : (o q : FrameOutcome Fields) → decided o ≡ decided q → o ≡ q
  says_is o q e = cc

  wait-case : r.answer ≡ None → Waited
  wait-case h = by (ltb (length out) user_max) (λ l. absurd (lent (ltb-true _ _ l))) (λ l. by_went (ltb-false _ _ l) (goes (kept_in n m) p (kept-waits n m)))
    where
      told : waiting ≡ piece_fields call.outcome
      told = ap answer_of (sym h) ∙ c.answer

      lent : length out < user_max → ⊥
      lent l = waits-not _ (told ∙ ap (λ (x : Call). piece_fields x.outcome) (receiving-33 (length out) (kept_in n m) p l))

      by_went : user_max ≤ length out → Went (kept_in n m) p (goes_over (kept_in n m) p) → Waited
      by_went l (waited e) = record { kept = c.kept ∙ ap (λ (x : Call). x.kept) (over l ∙ e); taken = c.taken ∙ ap (λ (x : Call). x.taken) (over l ∙ e) }
      by_went l (ended j i d a e) = absurd (waits-not _ (told ∙ ap (λ (x : Call). piece_fields x.outcome) (over l ∙ e)))

  end-case : (x : Result Frame FrameRefusal) → user_max ≤ length out → r.answer ≡ Some x → Ended x
  end-case x l h = by_went (goes (kept_in n m) p (kept-waits n m))
    where
      told : decided (read_of x) ≡ piece_fields call.outcome
      told = ap answer_of (sym h) ∙ c.answer

      by_went : Went (kept_in n m) p (goes_over (kept_in n m) p) → Ended x
      by_went (waited e) = absurd (waits-not _ (sym (told ∙ ap (λ (y : Call). piece_fields y.outcome) (over l ∙ e))))
      by_went (ended j i d a e) = record {
        j = j;
        inside = i;
        room = l;
        decides = d;
        at = a;
        answer = says_is _ _ (told ∙ ap (λ (y : Call). piece_fields y.outcome) (over l ∙ e));
        lent = c.lent ∙ ap (λ (y : Call). lent_after out y.outcome) (over l ∙ e);
        kept = c.kept ∙ ap (λ (y : Call). y.kept) (over l ∙ e);
        taken = c.taken ∙ ap (λ (y : Call). y.taken) (over l ∙ e);
      }

  -- a call that decides on a frame had room
  had-room : (x : Result Frame FrameRefusal) → r.answer ≡ Some x → (x ≡ Err OutputTooSmall → ⊥) → user_max ≤ length out
  had-room x h not-33 = by (ltb (length out) user_max) (λ l. absurd (not-33 (only-33 x (says_is _ _ (told (ltb-true _ _ l)))))) (λ l. ltb-false _ _ l)
    where
      told : length out < user_max → decided (read_of x) ≡ decided (refused_by 33)
      told l = ap answer_of (sym h) ∙ c.answer ∙ ap (λ (y : Call). piece_fields y.outcome) (receiving-33 (length out) (kept_in n m) p l)

  refusal : (o : FrameOutcome Parts) → refused_by 33 ≡ fields_of o → o ≡ refused_by 33
  refusal (accepted f) e = cc
  refusal (refused why) e = cc

  -- with room it is never 33
  not-small : user_max ≤ length out → r.answer ≡ Some (Err OutputTooSmall) → ⊥
  not-small l h = let x = end-case (Err OutputTooSmall) l h in never-33 _ x.decides (refusal _ x.answer)

  small-case : r.answer ≡ Some (Err OutputTooSmall) → Same
  small-case h = by (ltb (length out) user_max) (λ l. lent (ltb-true _ _ l)) (λ l. absurd (not-small (ltb-false _ _ l) h))
    where
      lent : length out < user_max → Same
      lent l =
          let e = receiving-33 (length out) (kept_in n m) p l in
          record { kept = c.kept ∙ ap (λ (y : Call). y.kept) e; taken = c.taken ∙ ap (λ (y : Call). y.taken) e }

-- ---- all calls

-- these are the events, and these bytes are kept at the end
abbrev Agrees : List LineEvent → List ℕ → LineEvents → Type 0
Agrees es kept x = (es ≡ x.events) × (kept ≡ x.rest)

-- what is waited on is read on with what follows
waits-stays : (s t : List ℕ) → waits s ≡ false → waits (s ++ t) ≡ false
waits-stays s t d = by (waits (s ++ t)) (λ w. absurd (differ _ (waits-prefix s t w) d)) (λ f. f)

-- the rule decides on s, and goes on behind it
module _ (q mv : ℕ) (s t : List ℕ) (d : waits s ≡ false) (e : mv ≡ moves_on (rule s) s) where
  went_on : events_from q 0 (s ++ t) ≡ first_then (record { outcome = rule s; at = q + decided_by (rule s) s }) (events_from (q + mv) 0 (drop mv s ++ t))
  went_on =
      let a = same-moves s t d in
      let m : moves_on (rule (s ++ t)) (s ++ t) ≡ mv = a.moved ∙ sym e in
      let g = moves s d in
      let l : mv ≤ length s = let h = g.read in let k = g.behind in omega (arith, e) in
      line-decides q (s ++ t) (waits-stays s t d)
      ∙ ap₂ first_then (λ i. record { outcome = a.rules i; at = q + a.read i })
      (ap₂ (λ (k : ℕ) (x : List ℕ). events_from (q + k) 0 x) m (ap (λ (k : ℕ). drop k (s ++ t)) m ∙ drop-append-le mv s t l))

module _ (r : Reception) (n t q : ℕ) (m m₁ p out out₁ : List ℕ) (ps : List (List ℕ)) (es : List LineEvent) (last : List ℕ)
    (c : PieceReceived r n m m₁ p out out₁) (place : t ≡ q + length (kept_in n m)) (bytes : AreBytes (kept_in n m ++ joined (p ∷ ps))) where
  -- the piece is used up: the line goes on with the next one
  step_waits : r.answer ≡ None
      → (t + r.taken ≡ q + length (kept_in r.kept m₁) → AreBytes (kept_in r.kept m₁ ++ joined ps) → Agrees es last (events_from q 0 (kept_in r.kept m₁ ++ joined ps)))
      → Agrees es last (events_from q 0 (kept_in n m ++ joined (p ∷ ps)))
  step_waits h ih =
      let w = wait-case r n m m₁ p out out₁ c h in
      let e : kept_in r.kept m₁ ++ joined ps ≡ kept_in n m ++ joined (p ∷ ps) = ap (λ (l : List ℕ). l ++ joined ps) w.kept ∙ append_assoc (kept_in n m) p (joined ps) in
      let k : length (kept_in r.kept m₁) ≡ length (kept_in n m) + length p = ap length w.kept ∙ length-append (kept_in n m) p in
      let x = ih (omega (arith, place, w.taken, k)) (subst AreBytes (sym e) bytes) in
      (x.0 ∙ ap (λ (l : List ℕ). (events_from q 0 l).events) e, x.1 ∙ ap (λ (l : List ℕ). (events_from q 0 l).rest) e)

  -- 33: the same again
  step_small : r.answer ≡ Some (Err OutputTooSmall)
      → (t + r.taken ≡ q + length (kept_in r.kept m₁) → AreBytes (kept_in r.kept m₁ ++ joined (drop r.taken p ∷ ps)) → Agrees es last (events_from q 0 (kept_in r.kept m₁ ++ joined (drop r.taken p ∷ ps))))
      → Agrees es last (events_from q 0 (kept_in n m ++ joined (p ∷ ps)))
  step_small h ih =
      let w = small-case r n m m₁ p out out₁ c h in
      let e : kept_in r.kept m₁ ++ joined (drop r.taken p ∷ ps) ≡ kept_in n m ++ joined (p ∷ ps) = ap₂ (λ (l : List ℕ) (k : ℕ). l ++ joined (drop k p ∷ ps)) w.kept w.taken in
      let k : length (kept_in r.kept m₁) ≡ length (kept_in n m) = ap length w.kept in
      let x = ih (omega (arith, place, w.taken, k)) (subst AreBytes (sym e) bytes) in
      (x.0 ∙ ap (λ (l : List ℕ). (events_from q 0 l).events) e, x.1 ∙ ap (λ (l : List ℕ). (events_from q 0 l).rest) e)

  -- a frame or a refusal: the line goes on behind it
  module _ (x : Result Frame FrameRefusal) (w : Ended r n m m₁ p out out₁ c x) where
    abbrev s : List ℕ
    s = kept_in n m ++ take (suc w.j) p

    abbrev behind : List ℕ
    behind = drop (suc w.j) p ++ joined ps

    whole : kept_in n m ++ joined (p ∷ ps) ≡ s ++ behind
    whole =
        ap (λ (l : List ℕ). kept_in n m ++ (l ++ joined ps)) (sym (take-append-drop (suc w.j) p))
        ∙ ap (λ (l : List ℕ). kept_in n m ++ l) (append_assoc (take (suc w.j) p) (drop (suc w.j) p) (joined ps))
        ∙ sym (append_assoc (kept_in n m) (take (suc w.j) p) behind)

    long : length s ≡ length (kept_in n m) + suc w.j
    long = length-append (kept_in n m) (take (suc w.j) p) ∙ ap (λ (k : ℕ). length (kept_in n m) + k) (length-take-le (suc w.j) p (let h = w.inside in omega arith))

    all-bytes : AreBytes (s ++ behind)
    all-bytes = subst AreBytes whole bytes

    said : outcome_in x out₁ ≡ rule s
    said =
        said-is x (rule s) out out₁ w.answer w.lent
        (λ f e. let h = read-most user_max s f (subst AreBytes (take-append_seam s behind) (take-bytes (length s) (s ++ behind) all-bytes)) e in let k = w.room in omega arith)

    mv : ℕ
    mv = moves_on (rule s) s

    next : kept_in r.kept m₁ ++ joined (drop r.taken p ∷ ps) ≡ drop mv s ++ behind
    unfolding mv
    next = ap₂ (λ (l : List ℕ) (k : ℕ). l ++ (drop k p ++ joined ps)) w.kept w.taken

    step-tells : ((q₁ : ℕ) → t + r.taken ≡ q₁ + length (kept_in r.kept m₁) → AreBytes (kept_in r.kept m₁ ++ joined (drop r.taken p ∷ ps))
        → Agrees es last (events_from q₁ 0 (kept_in r.kept m₁ ++ joined (drop r.taken p ∷ ps))))
        → Agrees (record { outcome = outcome_in x out₁; at = t + r.taken } ∷ es) last (events_from q 0 (kept_in n m ++ joined (p ∷ ps)))
    unfolding mv
    step-tells ih =
        let g = moves s w.decides in
        let l : mv ≤ length s = let a = g.read in let b = g.behind in omega arith in
        let k : length (kept_in r.kept m₁) ≡ length s - mv = ap length w.kept ∙ length-drop mv s in
        let y = ih (q + mv) (omega (arith, place, w.taken, k, long))
        (subst AreBytes (sym (next ∙ sym (drop-append-le mv s behind l))) (drop-bytes mv (s ++ behind) all-bytes)) in
        let b : t + r.taken ≡ q + decided_by (rule s) s = omega (arith, place, w.taken, long, w.at) in
        let z : events_from q 0 (kept_in n m ++ joined (p ∷ ps)) ≡ first_then (record { outcome = rule s; at = q + decided_by (rule s) s }) (events_from (q + mv) 0 (drop mv s ++ behind)) =
        ap (events_from q 0) whole ∙ went_on q mv s behind w.decides refl in (
          ap₂ (λ (v : LineEvent) (vs : List LineEvent). v ∷ vs) (λ i. record { outcome = said i; at = b i }) (y.0 ∙ ap (λ (v : List ℕ). (events_from (q + mv) 0 v).events) next) ∙ sym (ap (λ (v : LineEvents). v.events) z),
          y.1 ∙ ap (λ (v : List ℕ). (events_from (q + mv) 0 v).rest) next ∙ sym (ap (λ (v : LineEvents). v.rest) z),
        )

agrees : {n n₁ t : ℕ} {m m₁ : List ℕ} {ps : List (List ℕ)} {es : List LineEvent} → Receives n m t ps es n₁ m₁
    → (q : ℕ) → t ≡ q + length (kept_in n m) → AreBytes (kept_in n m ++ joined ps) → Agrees es (kept_in n₁ m₁) (events_from q 0 (kept_in n m ++ joined ps))
agrees {n = n} {m = m} done q place bytes =
    let e = line-waits q (kept_in n m ++ []) (ap waits (append-nil (kept_in n m)) ∙ kept-waits n m) in
    (sym (ap (λ (x : LineEvents). x.events) e), sym (append-nil (kept_in n m)) ∙ sym (ap (λ (x : LineEvents). x.rest) e))
agrees (uses_up {ps = ps} c h rest) q place bytes = step_waits _ _ _ q _ _ _ _ _ ps _ _ c place bytes h (λ k b. agrees rest q k b)
agrees (answers {ps = ps} {x = x} c h not-33 rest) q place bytes =
    step-tells _ _ _ q _ _ _ _ _ ps _ _ c place bytes x (end-case _ _ _ _ _ _ _ c x (had-room _ _ _ _ _ _ _ c x h not-33) h) (λ q₁ k b. agrees rest q₁ k b)
agrees (refuses33 {ps = ps} c h rest) q place bytes = step_small _ _ _ q _ _ _ _ _ ps _ _ c place bytes h (λ k b. agrees rest q k b)

pub receives-the-line : ReceivesTheLine
unfolding ReceivesTheLine
receives-the-line n n₁ m m₁ ps es bytes calls = agrees calls 0 (omega arith) bytes

pub cut-alike : CutAlike
unfolding CutAlike
cut-alike n n₁ k k₁ m m₁ l l₁ ps qs es fs same joins bytes first second =
    let e : kept_in n m ++ joined ps ≡ kept_in k l ++ joined qs = ap₂ (λ (x y : List ℕ). x ++ y) same joins in
    let a = agrees first 0 (omega arith) bytes in
    let b = agrees second 0 (omega arith) (subst AreBytes e bytes) in
    (a.0 ∙ ap (λ (x : List ℕ). (events_of x).events) e ∙ sym b.0, a.1 ∙ ap (λ (x : List ℕ). (events_of x).rest) e ∙ sym b.1)

-- ---- the calls come to an end

-- what a call answers
data Tells (h : Option (Result Frame FrameRefusal)) : Type 0 where
  it-waits : h ≡ None → Tells h
  it-decides : (x : Result Frame FrameRefusal) → h ≡ Some x → Tells h

telling : (h : Option (Result Frame FrameRefusal)) → Tells h
telling None = it-waits refl
telling (Some x) = it-decides x refl

pub progresses : Progresses
unfolding Progresses
progresses r n m m₁ p out out₁ c room = (most (telling r.answer), (λ h. (wait-case r n m m₁ p out out₁ c h).taken), λ x h. let w = end-case r n m m₁ p out out₁ c x room h in omega (arith, w.taken))
  where
    most : Tells r.answer → r.taken ≤ length p
    most (it-waits h) = omega (arith, (wait-case r n m m₁ p out out₁ c h).taken)
    most (it-decides x h) = let w = end-case r n m m₁ p out out₁ c x room h in let i = w.inside in omega (arith, w.taken)

module _ (call : ℕ → List ℕ → List ℕ → Reception) (after lent written : ℕ → List ℕ → List ℕ → List ℕ)
    (room : (n : ℕ) (m p : List ℕ) → user_max ≤ length (lent n m p))
    (meets : (n : ℕ) (m p : List ℕ) → PieceReceived (call n m p) n m (after n m p) p (lent n m p) (written n m p)) where
  -- one call with a piece; what is left of it is shorter
  step : (p : List ℕ) (ps : List (List ℕ)) → ((n t : ℕ) (m : List ℕ) → ReceivedWhole n m t ps) → ((q : List ℕ) → length q < length p → (n t : ℕ) (m : List ℕ) → ReceivedWhole n m t (q ∷ ps))
      → (n t : ℕ) (m : List ℕ) → ReceivedWhole n m t (p ∷ ps)
  unfolding Progresses
  step p ps others again n t m = go (telling (call n m p).answer)
    where
      go : Tells (call n m p).answer → ReceivedWhole n m t (p ∷ ps)
      go (it-waits e) =
          let x = others (call n m p).kept (t + (call n m p).taken) (after n m p) in
          record { events = x.events; kept = x.kept; memory = x.memory; calls = uses_up (meets n m p) e x.calls }
      go (it-decides x e) =
          let g = progresses (call n m p) n m (after n m p) p (lent n m p) (written n m p) (meets n m p) (room n m p) in
          let a : (call n m p).taken ≤ length p = g.0 in
          let b : 1 ≤ (call n m p).taken = g.2 x e in
          let y = again (drop (call n m p).taken p) (simp length-drop (omega arith)) (call n m p).kept (t + (call n m p).taken) (after n m p) in
          record {
            events = record { outcome = outcome_in x (written n m p); at = t + (call n m p).taken } ∷ y.events;
            kept = y.kept;
            memory = y.memory;
            calls = answers (meets n m p) e (λ z. not-small (call n m p) n m (after n m p) p (lent n m p) (written n m p) (meets n m p) (room n m p) (e ∙ ap Some z)) y.calls;
          }

  -- a piece of so many bytes at most, and then the others
  one : (most : ℕ) (p : List ℕ) (ps : List (List ℕ)) → ((n t : ℕ) (m : List ℕ) → ReceivedWhole n m t ps) → length p ≤ most → (n t : ℕ) (m : List ℕ) → ReceivedWhole n m t (p ∷ ps)
  one zero p ps others h n t m = step p ps others (λ q l. absurd (omega arith)) n t m
  one (suc most) p ps others h n t m = step p ps others (λ q l. one most q ps others (omega arith)) n t m

  ends-all : (ps : List (List ℕ)) (n t : ℕ) (m : List ℕ) → ReceivedWhole n m t ps
  ends-all [] n t m = record { events = []; kept = n; memory = m; calls = done }
  ends-all (p ∷ ps) n t m = one (length p) p ps (ends-all ps) (omega arith) n t m

pub receives-end : ReceivesEnd
unfolding ReceivesEnd
receives-end call after lent written room meets n t m ps = ends-all call after lent written room meets ps n t m
