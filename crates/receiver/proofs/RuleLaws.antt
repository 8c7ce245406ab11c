-- The single-frame rule on bytes that come little by little: where it waits, where it decides, and how far it moves on.
-- Assumes nothing.
use mathlib.Core.Path.{◌≡◌, refl, sym, ap, ◌∙◌, subst}
use mathlib.Core.Bool.{Bool, true, false, cond}
use Prim.Native.Nat.{ℕ, ◌+◌, ◌-◌, ◌≤◌, ◌<◌}
use native.Mathlib.Omega.{arith}
use mathlib.Core.List.{List, [], ◌∷◌, ◌++◌, append-nil}
use lib.Dec.{ltb, eqb}
use borrow.Author.Tests.{ltb-true, ltb-false, ne_eqb}
use lib.ListN.{length, get_or, length-append, get_or-append}
use Rattle.laws.proofs.Choices.{by}
use Rattle.frame.specs.FrameOutcome.{wrong_block, FrameOutcome, accepted, refused, refused_by, number_of}
use Rattle.frame.specs.FrameOutcome as R
use Rattle.frame.specs.Frame.{Parts, frame_size, decode_body}
use Rattle.frame.specs.WrongBlock.{user_count}
use Rattle.frame.proofs.Prefix.{Ruled, short, wrong, right, ruled, body-short, body_more, Body, frame, block, body-whole}
use Rattle.receiver.specs.Receiver.{rule, waits, stated_size, moves_on, decided_by}

-- ---- what the rule waits on

waits-by : (s : List ℕ) (o : FrameOutcome Parts) → rule s ≡ o → waits s ≡ eqb (number_of o) 11
unfolding waits
waits-by s o e = ap (λ (x : FrameOutcome Parts). eqb (number_of x) 11) e

pub waits-short : (s : List ℕ) → length s < 10 → waits s ≡ true
waits-short s h = go (ruled s)
  where
    go : Ruled s → waits s ≡ true
    go (short l e) = waits-by s _ e
    go (wrong l k a b e) = absurd (omega arith)
    go (right l five e) = absurd (omega arith)

-- the rule on s alone
alone : (s : List ℕ) (o : FrameOutcome Parts) → rule (s ++ []) ≡ o → rule s ≡ o
alone s o e = ap rule (sym (append-nil s)) ∙ e

not-wrong : (k : ℕ) → 12 ≤ k → eqb k 11 ≡ false
not-wrong k h = ne_eqb k 11 (λ e. omega arith)

-- a whole body is decided
body-decides : (o : FrameOutcome Parts) → Body o → eqb (number_of o) 11 ≡ false
body-decides o (frame f e) = ap (λ (x : FrameOutcome Parts). eqb (number_of x) 11) e
body-decides o (block b e) = ap (λ (x : FrameOutcome Parts). eqb (number_of x) 11) e

pub differ : (b : Bool) → b ≡ true → b ≡ false → ⊥
differ b t f = let z : ◌≡◌ {A = ℕ} 1 0 = ap (λ (x : Bool). cond x 1 0) (sym t ∙ f) in omega arith

-- What the receiver asks of bytes of ten and more: refused by the header, waiting for more, or whole
pub data Stage (s : List ℕ) : Type 0 where
  few : length s < 10 → waits s ≡ true → Stage s
  refusal : 10 ≤ length s → (k : ℕ) → 12 ≤ k → k ≤ 14 → ((t : List ℕ) → rule (s ++ t) ≡ refused_by k) → Stage s
  part : 10 ≤ length s → 5 ≤ get_or s 2 0 → length s < stated_size s → waits s ≡ true → ((t : List ℕ) → rule (s ++ t) ≡ decode_body (user_count s) (s ++ t)) → Stage s
  whole : 10 ≤ length s → stated_size s ≤ length s → ((t : List ℕ) → rule (s ++ t) ≡ decode_body (user_count s) s) → Body (decode_body (user_count s) s) → Stage s

pub stage : (s : List ℕ) → Stage s
stage s = go (ruled s)
  where
    waiting : ((t : List ℕ) → rule (s ++ t) ≡ decode_body (user_count s) (s ++ t)) → length s < stated_size s → waits s ≡ true
    waiting e m = waits-by s _ (alone s _ (e []) ∙ ap (decode_body (user_count s)) (append-nil s) ∙ body-short s (user_count s) m)

    go : Ruled s → Stage s
    go (short l e) = few l (waits-by s _ e)
    go (wrong l k a b e) = refusal l k a b e
    go (right l five e) =
        by (ltb (length s) (stated_size s))
        (λ h. part l five (ltb-true _ _ h) (waiting e (ltb-true _ _ h)) e)
        (λ h. let w : stated_size s ≤ length s = ltb-false _ _ h in whole l w (λ t. e t ∙ body_more s (user_count s) w t) (body-whole (user_count s) s w))

-- ---- laws by the stage

-- what the rule waits on has a part of a frame, and so has each of its beginnings
pub waits-prefix : (s t : List ℕ) → waits (s ++ t) ≡ true → waits s ≡ true
waits-prefix s t w = go (stage s)
  where
    go : Stage s → waits s ≡ true
    go (few l e) = e
    go (refusal l k a b e) = absurd (differ _ w (waits-by (s ++ t) _ (e t) ∙ not-wrong k a))
    go (part l five m w e) = w
    go (whole l m e d) = absurd (differ _ w (waits-by (s ++ t) _ (e t) ∙ body-decides _ d))

-- what is decided stays so, whatever follows
pub decided-stays : (s t : List ℕ) → waits s ≡ false → rule (s ++ t) ≡ rule s
decided-stays s t w = go (stage s)
  where
    go : Stage s → rule (s ++ t) ≡ rule s
    go (few l e) = absurd (differ _ e w)
    go (refusal l k a b e) = e t ∙ sym (alone s _ (e []))
    go (part l five m x e) = absurd (differ _ x w)
    go (whole l m e d) = e t ∙ sym (alone s _ (e []))

-- a right header: how many bytes are wanted
pub record Wanting (s : List ℕ) : Type 0 where
  pub least : 5 ≤ get_or s 2 0
  pub wants : length s < stated_size s
  pub below : (t : List ℕ) → length (s ++ t) < stated_size s → waits (s ++ t) ≡ true
  pub full : (t : List ℕ) → stated_size s ≤ length (s ++ t) → waits (s ++ t) ≡ false
  pub decided : (t : List ℕ) → stated_size s ≤ length (s ++ t) → Body (rule (s ++ t))

pub wanting : (s : List ℕ) → 10 ≤ length s → waits s ≡ true → Wanting s
wanting s ten w = go (stage s)
  where
    go : Stage s → Wanting s
    go (few l e) = absurd (omega arith)
    go (refusal l k a b e) = absurd (differ _ w (waits-by s _ (alone s _ (e [])) ∙ not-wrong k a))
    go (part l five m x e) = record {
      least = five;
      wants = m;
      below = λ t h. waits-by (s ++ t) _ (e t ∙ body-short (s ++ t) (user_count s) h);
      full = λ t h. waits-by (s ++ t) _ (e t) ∙ body-decides _ (body-whole (user_count s) (s ++ t) h);
      decided = λ t h. subst Body (sym (e t)) (body-whole (user_count s) (s ++ t) h);
    }
    go (whole l m e d) = absurd (differ _ w (waits-by s _ (alone s _ (e [])) ∙ body-decides _ d))

-- how far the rule read and moves on, by what it says
pub record Moves (s : List ℕ) (m d : ℕ) : Type 0 where
  pub on : 1 ≤ m
  pub read : d ≤ length s
  pub behind : m ≤ d
  pub few-stay : d - m < 10
  pub ten : 10 ≤ length s

moves-by : (s : List ℕ) (o : FrameOutcome Parts) → Body o → stated_size s ≤ length s → 10 ≤ length s → Moves s (moves_on o s) (decided_by o s)
moves-by s o (frame f e) w t =
    subst (λ (x : FrameOutcome Parts). Moves s (moves_on x s) (decided_by x s)) (sym e) (record { on = omega arith; read = w; behind = omega arith; few-stay = omega arith; ten = t })
moves-by s o (block b e) w t =
    subst (λ (x : FrameOutcome Parts). Moves s (moves_on x s) (decided_by x s)) (sym e) (record { on = omega arith; read = w; behind = omega arith; few-stay = omega arith; ten = t })

pub moves : (s : List ℕ) → waits s ≡ false → Moves s (moves_on (rule s) s) (decided_by (rule s) s)
moves s w = go (stage s)
  where
    go : Stage s → Moves s (moves_on (rule s) s) (decided_by (rule s) s)
    go (few l e) = absurd (differ _ e w)
    go (refusal l k a b e) =
        subst (λ (x : FrameOutcome Parts). Moves s (moves_on x s) (decided_by x s)) (sym (alone s _ (e []))) (record { on = omega arith; read = l; behind = omega arith; few-stay = omega arith; ten = l })
    go (part l five m x e) = absurd (differ _ x w)
    go (whole l m e d) =
        subst (λ (x : FrameOutcome Parts). Moves s (moves_on x s) (decided_by x s)) (sym (alone s _ (e []))) (moves-by s _ d m l)

body-size : (s : List ℕ) (o : FrameOutcome Parts) → Body o → decided_by o s ≡ stated_size s
body-size s o (frame f e) = ap (λ (x : FrameOutcome Parts). decided_by x s) e
body-size s o (block b e) = ap (λ (x : FrameOutcome Parts). decided_by x s) e

-- more bytes behind a header leave its stated size
pub same_size : (s t : List ℕ) → 10 ≤ length s → stated_size (s ++ t) ≡ stated_size s
same_size s t h = ap (λ (n : ℕ). frame_size (n - 5)) (get_or-append s t 0 2 (omega arith))

-- The byte behind what is waited on decides: then the rule has read all of the bytes
pub decided-at : (s : List ℕ) (b : ℕ) → waits s ≡ true → waits (s ++ b ∷ []) ≡ false → length (s ++ b ∷ []) ≡ decided_by (rule (s ++ b ∷ [])) (s ++ b ∷ [])
decided-at s b w d = by (ltb (length s) 10) (λ h. header (ltb-true _ _ h) (stage (s ++ b ∷ []))) (λ h. body (ltb-false _ _ h))
  where
    one : length (s ++ b ∷ []) ≡ length s + 1
    one = length-append s (b ∷ [])

    header : length s < 10 → Stage (s ++ b ∷ []) → length (s ++ b ∷ []) ≡ decided_by (rule (s ++ b ∷ [])) (s ++ b ∷ [])
    header h (few l e) = absurd (differ _ e d)
    header h (refusal l k x y e) =
        let n : length (s ++ b ∷ []) ≡ 10 = omega (arith, one) in
        n ∙ sym (ap (λ (o : FrameOutcome Parts). decided_by o (s ++ b ∷ [])) (alone (s ++ b ∷ []) _ (e [])))
    header h (part l five m x e) = absurd (differ _ x d)
    header h (whole l m e x) =
        let n : length (s ++ b ∷ []) ≡ stated_size (s ++ b ∷ []) = omega (arith, one) in
        n ∙ sym (ap (λ (o : FrameOutcome Parts). decided_by o (s ++ b ∷ [])) (alone (s ++ b ∷ []) _ (e [])) ∙ body-size (s ++ b ∷ []) _ x)

    body : 10 ≤ length s → length (s ++ b ∷ []) ≡ decided_by (rule (s ++ b ∷ [])) (s ++ b ∷ [])
    body h =
        let g = wanting s h w in
        let m : stated_size s ≤ length (s ++ b ∷ []) = by (ltb (length (s ++ b ∷ [])) (stated_size s)) (λ l. absurd (differ _ (g.below (b ∷ []) (ltb-true _ _ l)) d)) (λ l. ltb-false _ _ l) in
        let a : length s < stated_size s = g.wants in
        let n : length (s ++ b ∷ []) ≡ stated_size s = omega (arith, one) in
        n ∙ sym (same_size s (b ∷ []) h) ∙ sym (body-size (s ++ b ∷ []) _ (g.decided (b ∷ []) m))

-- ---- the same rule on a longer line

-- how far the rule read and moves on is the same, whatever follows
pub record Alike (s t : List ℕ) : Type 0 where
  pub rules : rule (s ++ t) ≡ rule s
  pub moved : moves_on (rule (s ++ t)) (s ++ t) ≡ moves_on (rule s) s
  pub read : decided_by (rule (s ++ t)) (s ++ t) ≡ decided_by (rule s) s

moved_by : (o : FrameOutcome Parts) (s t : List ℕ) → stated_size (s ++ t) ≡ stated_size s → (moves_on o (s ++ t) ≡ moves_on o s) × (decided_by o (s ++ t) ≡ decided_by o s)
moved_by (refused (R.by k)) s t e = (refl, refl)
moved_by (refused (wrong_block b)) s t e = (e, e)
moved_by (accepted f) s t e = (e, e)

pub same-moves : (s t : List ℕ) → waits s ≡ false → Alike s t
same-moves s t d =
    let r = decided-stays s t d in
    let m = moved_by (rule s) s t (same_size s t (moves s d).ten) in
    record {
      rules = r;
      moved = ap (λ (o : FrameOutcome Parts). moves_on o (s ++ t)) r ∙ m.0;
      read = ap (λ (o : FrameOutcome Parts). decided_by o (s ++ t)) r ∙ m.1;
    }

-- 33 is of the lent output alone
body-not-33 : (o : FrameOutcome Parts) → Body o → o ≡ refused_by 33 → ⊥
body-not-33 o (frame f e) t = let z : ◌≡◌ {A = ℕ} 0 33 = ap number_of (sym e ∙ t) in omega arith
body-not-33 o (block b e) t = let z : ◌≡◌ {A = ℕ} 15 33 = ap number_of (sym e ∙ t) in omega arith

pub never-33 : (s : List ℕ) → waits s ≡ false → rule s ≡ refused_by 33 → ⊥
never-33 s d r = go (stage s)
  where
    go : Stage s → ⊥
    go (few l e) = differ _ e d
    go (refusal l k a b e) = let z : k ≡ 33 = ap number_of (sym (alone s _ (e [])) ∙ r) in omega arith
    go (part l five m x e) = differ _ x d
    go (whole l m e x) = body-not-33 _ x (sym (alone s _ (e [])) ∙ r)
