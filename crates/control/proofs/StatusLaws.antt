-- Laws of one object's status, and of the loops over the objects and their statuses.
-- Assumes nothing.
use mathlib.Core.Path.{◌≡◌, refl, sym, ap, ◌∙◌}
use mathlib.Core.Bool.{Bool, not}
use mathlib.Core.List.{List, [], ◌∷◌, ◌++◌}
use Prim.Native.Nat.{ℕ, ◌+◌, ◌-◌, ◌≤◌, ◌<◌}
use native.Mathlib.Omega.{arith}
use borrow.Author.Tests.{eq-eqb, ne_eqb}
use lib.ListN.{length, get_or, take, drop, set, length-drop}
use lib.Seq.{drop-drop, length-take-le}
use Rattle.octets.specs.Bytes.{splice}
use Rattle.octets.proofs.Splice.{splice-append, splice-cons}
use Rattle.laws.specs.First.{first, ◌⇒◌}
use Rattle.laws.specs.Lists.{member}
use Rattle.control.specs.declared.ControlObject.{ControlObject}
use Rattle.control.specs.Objects.{no_object, earlier_of}
use Rattle.control.specs.Status.{Outputs, can_do, status_of, statuses, echoed, chosen}
use Rattle.laws.proofs.Filling.{part-front, part_none}
use Rattle.control.proofs.ObjectLaws.{earlier-next}

-- ---- one object's status, its status byte found to be 0

pub undisturbed : (u : Outputs) (again : Bool) (c : ControlObject) → c.status ≡ 0
    → status_of u again c ≡ first (not (can_do u c.index c.command) ⇒ 4 ∷ again ⇒ 8 ∷ []) 0
undisturbed u again c s = rw (eq-eqb _ _ s)

-- ---- the statuses

pub statuses-nil : (u : Outputs) (earlier : List ℕ) → statuses u earlier [] ≡ []
unfolding statuses
statuses-nil u earlier = refl

pub earlier-start : (cs : List ControlObject) → earlier_of cs 0 ≡ []
unfolding earlier_of
earlier-start cs = refl

pub statuses-step : (u : Outputs) (cs : List ControlObject) (n i : ℕ) → i < n → n ≤ length cs
    → statuses u (earlier_of cs i) (drop i (take n cs))
    ≡ status_of u (member (get_or cs i no_object).index (earlier_of cs i)) (get_or cs i no_object) ∷ statuses u (earlier_of cs (i + 1)) (drop (i + 1) (take n cs))
unfolding statuses
statuses-step u cs n i h k = rw (part-front cs n i no_object h k, earlier-next cs i)

-- ---- the objects with status 0

module _ (cs : List ControlObject) (ss : List ℕ) (n i : ℕ) (h : i < n) (k : n ≤ length cs) (m : n ≤ length ss) where
  pub chosen-yes : get_or ss i 0 ≡ 0
      → chosen (drop i (take n cs)) (drop i (take n ss)) ≡ get_or cs i no_object ∷ chosen (drop (i + 1) (take n cs)) (drop (i + 1) (take n ss))
  unfolding chosen
  chosen-yes e = rw (part-front cs n i no_object h k, part-front ss n i 0 h m, eq-eqb _ _ e)

  pub chosen-no : (get_or ss i 0 ≡ 0 → ⊥)
      → chosen (drop (i + 1) (take n cs)) (drop (i + 1) (take n ss)) ≡ chosen (drop i (take n cs)) (drop i (take n ss))
  unfolding chosen
  chosen-no e = rw (part-front cs n i no_object h k, part-front ss n i 0 h m, ne_eqb _ _ e)

pub chosen-end : (cs : List ControlObject) (ss : List ℕ) (n i : ℕ) → i ≤ n → n ≤ i → chosen (drop i (take n cs)) ss ≡ []
unfolding chosen
chosen-end cs ss n i h k = rw (part_none cs n i h k)

-- ---- the echo

pub echoed-nil : (w z : ℕ) (b : List ℕ) → echoed w z [] b ≡ []
unfolding echoed
echoed-nil w z b = refl

echoed-cons : (w z s : ℕ) (ss b : List ℕ) → echoed w z (s ∷ ss) b ≡ take (w + z) b ++ s ∷ echoed w z ss (drop (w + z + 1) b)
unfolding echoed
echoed-cons w z s ss b = refl

-- a turn copies an object up to its status byte and stores the status
module _ (d : List ℕ) (at from w z : ℕ) (ss : List ℕ) (n i : ℕ) (b : List ℕ) (h : i < n) (k : n ≤ length ss) (room : from + w + z + 1 ≤ length b) where
  pub echo-step
      : splice
      (set (splice d (at + from) (take (from + w + z - from) (drop from b))) (at + (from + w + z)) (get_or ss i 0))
      (at + (from + w + z + 1))
      (echoed w z (drop (i + 1) (take n ss)) (drop (from + w + z + 1) b))
      ≡ splice d (at + from) (echoed w z (drop i (take n ss)) (drop from b))
  echo-step =
      let e1 : from + w + z - from ≡ w + z = omega arith in
      let e2 : at + (from + w + z + 1) ≡ at + (from + w + z) + 1 = omega arith in
      let e3 : from + w + z + 1 ≡ from + (w + z + 1) = omega arith in
      let l : length (take (w + z) (drop from b)) ≡ w + z = length-take-le (w + z) (drop from b) (simp length-drop (omega arith)) in
      let e4 : at + (from + w + z) ≡ at + from + length (take (w + z) (drop from b)) = omega arith in
      let rest : List ℕ = echoed w z (drop (i + 1) (take n ss)) (drop (w + z + 1) (drop from b)) in
      rw (e2, e1, e3, ← drop-drop (w + z + 1) from b)
      (sym (splice-cons (splice d (at + from) (take (w + z) (drop from b))) (at + (from + w + z)) (get_or ss i 0) rest)
      ∙ ap (λ (p : ℕ). splice (splice d (at + from) (take (w + z) (drop from b))) p (get_or ss i 0 ∷ rest)) e4
      ∙ sym (splice-append d (at + from) (take (w + z) (drop from b)) (get_or ss i 0 ∷ rest))
      ∙ ap (λ (x : List ℕ). splice d (at + from) x) (sym (echoed-cons w z (get_or ss i 0) (drop (i + 1) (take n ss)) (drop from b)))
      ∙ ap (λ (x : List ℕ). splice d (at + from) (echoed w z x (drop from b))) (sym (part-front ss n i 0 h k)))
