-- Laws of static objects: their number of bytes, and how they are put.
-- Assumes nothing.
use mathlib.Core.Path.{◌≡◌, refl, sym, ap, ◌∙◌}
use Rattle.read_headers.specs.declared.PointKind.{PointKind}
use Rattle.read_headers.specs.declared.PointKind.TheVariants as K
use mathlib.Core.List.{List, [], ◌∷◌, ◌++◌, append-nil}
use Prim.Native.Nat.{ℕ, zero, suc, ◌+◌, ◌-◌, ◌≤◌, ◌<◌}
use native.Mathlib.Omega.{arith}
use Rattle.std.proofs.Common.{Option, Some, None, true, false, eqb}
use Rattle.std.specs.Option.{option_eq}
use borrow.Author.Tests.{eqb-true, eqb-false}
use lib.ListN.{length, set, length-append}
use Rattle.octets.specs.Bytes.{splice, le}
use Rattle.octets.proofs.Splice.{splice-append, splice-cons, splice-one, splice-nil, length-splice}
use Rattle.octets.proofs.Le.{length-le}
use Rattle.points.specs.PointsView.{PointsView}
use Rattle.points.specs.declared.Value.{Value}
use Rattle.points.specs.declared.Value.TheVariants.{Int32, Int16, Float32}
use Rattle.objects.specs.Values.{value_bytes, value_size}
use Rattle.objects.proofs.ValueLaws.{length-value}
use Rattle.objects.specs.Runs.{Object, runs, object_bytes, all_bytes, encoded, lead}
use Rattle.objects.proofs.RunLaws.{lead-nil, lead-other}
use Rattle.objects.proofs.WriterLaws.{three-put}
use Rattle.static_objects.specs.declared.ShownPoint.{ShownPoint}
use Rattle.static_objects.specs.declared.ShownPoint.TheVariants.{Binary, Analog}
use Rattle.static_objects.specs.Static.{shown_at, static_variation, point_bytes, static_heading, point_object, point_objects, range_bytes}

-- ---- putting

pub heading-put : (d d4 d5 : List ℕ) (at g v i m : ℕ) → d4 ≡ splice (set (set (set d at g) (at + 1) v) (at + 2) 1) (at + 3) (le 2 i) → d5 ≡ splice d4 (at + 5) (le 2 (i + m))
    → d5 ≡ splice d at (g ∷ v ∷ 1 ∷ (le 2 i ++ le 2 (i + (m + 1) - 1)))
heading-put d d4 d5 at g v i m e4 e5 =
    let d3 : List ℕ = set (set (set d at g) (at + 1) v) (at + 2) 1 in
    let o5 : at + 5 ≡ at + 3 + length (le 2 i) = omega (arith, length-le 2 i) in
    let l : i + m ≡ i + (m + 1) - 1 = omega arith in
    e5
    ∙ ap (λ (q : ℕ). splice d4 q (le 2 (i + m))) o5
    ∙ ap (λ (x : List ℕ). splice x (at + 3 + length (le 2 i)) (le 2 (i + m))) e4
    ∙ sym (splice-append d3 (at + 3) (le 2 i) (le 2 (i + m)))
    ∙ three-put d at g v 1 (le 2 i ++ le 2 (i + m))
    ∙ ap (λ (q : ℕ). splice d at (g ∷ v ∷ 1 ∷ (le 2 i ++ le 2 q))) l

pub binary-put : (d : List ℕ) (at : ℕ) (s : ShownPoint) (f : ℕ) → s ≡ Binary f → set d at f ≡ splice d at (point_bytes s)
unfolding point_bytes
binary-put d at s f h = sym (splice-one d at f) ∙ ap (λ (x : ShownPoint). splice d at (point_bytes x)) (sym h)

pub analog-put : (d d2 : List ℕ) (at : ℕ) (s : ShownPoint) (f : ℕ) (v : Value) → s ≡ Analog f v → d2 ≡ splice (set d at f) (at + 1) (value_bytes v) → d2 ≡ splice d at (point_bytes s)
unfolding point_bytes
analog-put d d2 at s f v h e = e ∙ sym (splice-cons d at f (value_bytes v)) ∙ ap (λ (x : ShownPoint). splice d at (point_bytes x)) (sym h)

-- ---- sizes

pub heading-length : (a : PointKind) (k i n : ℕ) → length (static_heading a k i n) ≡ 7
heading-length a k i n =
    let t : length (le 2 i ++ le 2 (i + n - 1)) ≡ 4 = omega (arith, length-append (le 2 i) (le 2 (i + n - 1)), length-le 2 i, length-le 2 (i + n - 1)) in
    ap (λ (m : ℕ). suc (suc (suc m))) t

module _ (s : ShownPoint) where
  pub length-binary : (f : ℕ) → s ≡ Binary f → length (point_bytes s) ≡ 1
  unfolding point_bytes
  length-binary f h = ap (λ (x : ShownPoint). length (point_bytes x)) h

  pub length-analog : (f : ℕ) (v : Value) → s ≡ Analog f v → length (point_bytes s) ≡ 1 + value_size v
  unfolding point_bytes
  length-analog f v h = ap (λ (x : ShownPoint). length (point_bytes x)) h ∙ ap suc (length-value v) ∙ omega arith

pub kind-some : (s : ShownPoint) → static_variation s ≡ 0 → ⊥
kind-some (Binary f) h = omega arith
kind-some (Analog f (Int32 z)) h = omega arith
kind-some (Analog f (Int16 z)) h = omega arith
kind-some (Analog f (Float32 x)) h = omega arith

-- the variation of the last object, 0 where there is none
abbrev pub last_variation : Option ℕ → ℕ
last_variation None = 0
last_variation (Some k) = k

pub last-same : (o : Option ℕ) (k : ℕ) → option_eq eqb o (Some k) ≡ true → k ≡ last_variation o
last-same None k e = cc
last-same (Some j) k e = sym (eqb-true j k e)

pub last-other : (o : Option ℕ) (k : ℕ) → (k ≡ 0 → ⊥) → option_eq eqb o (Some k) ≡ false → k ≡ last_variation o → ⊥
last-other None k some e q = some q
last-other (Some j) k some e q = eqb-false j k e (sym q)

-- ---- the points' objects

module _ (i : PointsView) (a : PointKind) where
  pub points-nil : (n k : ℕ) → k ≤ 0 → point_objects i a n k ≡ []
  unfolding point_objects
  points-nil n zero h = refl
  points-nil n (suc k) h = absurd (omega arith)

  pub points-cons : (n k : ℕ) → 0 < k → point_objects i a n k ≡ point_object i a n ∷ point_objects i a (n + 1) (k - 1)
  unfolding point_objects
  points-cons n zero h = absurd (omega arith)
  points-cons n (suc k) h =
      let e : k ≡ suc k - 1 = omega arith in
      ap (λ (q : ℕ). point_object i a n ∷ point_objects i a (n + 1) q) e

  -- the points from n on to e
  pub points-over : (n e : ℕ) → e ≤ n → point_objects i a n (e - n) ≡ []
  points-over n e h = points-nil n (e - n) (omega arith)

  pub points-next : (n e : ℕ) → n < e → point_objects i a n (e - n) ≡ point_object i a n ∷ point_objects i a (n + 1) (e - (n + 1))
  points-next n e h =
      let s : e - n - 1 ≡ e - (n + 1) = omega arith in
      points-cons n (e - n) (omega arith) ∙ ap (λ (q : ℕ). point_object i a n ∷ point_objects i a (n + 1) q) s

  pub points-all : (n k : ℕ) → point_objects i a n (n + k - n) ≡ point_objects i a n k
  points-all n k = let s : n + k - n ≡ k = omega arith in ap (point_objects i a n) s

  -- no object is of the kind 0
  pub none_first : (n k : ℕ) → lead 0 (point_objects i a n k) ≡ 0
  unfolding point_objects
  none_first n zero = lead-nil 0
  none_first n (suc k) = lead-other (point_object i a n) (point_objects i a (n + 1) k) 0 (kind-some (shown_at i a n))

-- ---- binaries are one run

module _ (i : PointsView) where
  points-length : (a : PointKind) (n k : ℕ) → length (point_objects i a n k) ≡ k
  unfolding point_objects
  points-length a n zero = refl
  points-length a n (suc k) = ap suc (points-length a (n + 1) k)

  one-run : (n k : ℕ) → runs (point_objects i K.Binary n (suc k)) ≡ point_objects i K.Binary n (suc k) ∷ []
  unfolding runs point_objects
  one-run n zero = refl
  one-run n (suc k) = rw (one-run (n + 1) k)

  states-length : (n k : ℕ) → length (object_bytes (point_objects i K.Binary n k)) ≡ k
  unfolding object_bytes point_objects point_bytes
  states-length n zero = refl
  states-length n (suc k) = ap suc (states-length (n + 1) k)

  -- a header, and what the points show
  pub binaries-some : (n k : ℕ) → 0 < k → range_bytes i K.Binary n k ≡ static_heading K.Binary 2 n (k - 1 + 1) ++ object_bytes (point_objects i K.Binary n k)
  unfolding range_bytes encoded all_bytes point_objects
  binaries-some n zero h = absurd (omega arith)
  binaries-some n (suc k) h =
      let xs : List Object = point_objects i K.Binary n (suc k) in
      let c : suc (length (point_objects i K.Binary (n + 1) k)) ≡ suc k - 1 + 1 = omega (arith, points-length K.Binary (n + 1) k) in
      ap (all_bytes (static_heading K.Binary)) (one-run n k)
      ∙ append-nil _
      ∙ ap (λ (q : ℕ). static_heading K.Binary 2 n q ++ object_bytes xs) c

  pub binaries-none : (n k : ℕ) → k ≤ 0 → range_bytes i K.Binary n k ≡ []
  unfolding range_bytes encoded all_bytes runs
  binaries-none n k h = ap (encoded (static_heading K.Binary)) (points-nil i K.Binary n k h)

  pub binaries-length : (n k : ℕ) → 0 < k → length (range_bytes i K.Binary n k) ≡ 7 + k
  binaries-length n k h =
      ap length (binaries-some n k h) ∙ length-append (static_heading K.Binary 2 n (k - 1 + 1)) (object_bytes (point_objects i K.Binary n k))
      ∙ omega (arith, heading-length K.Binary 2 n (k - 1 + 1), states-length n k)

  -- writing: the points to come from where the loop stands up to e, as all from its start
  pub record Showing (out₀ : List ℕ) (at from e : ℕ) (out : List ℕ) (to j : ℕ) : Type 0 where
    pub ahead : splice out to (object_bytes (point_objects i K.Binary j (e - j))) ≡ splice out₀ at (object_bytes (point_objects i K.Binary from (e - from)))
    pub long : length out ≡ length out₀
    pub room : to + from ≡ at + j

  module _ {out₀ : List ℕ} {at from e : ℕ} {out : List ℕ} {to j : ℕ} (g : Showing out₀ at from e out to j) where
    pub shown : j < e → (s : ShownPoint) → s ≡ shown_at i K.Binary j → (out' : List ℕ) (to' : ℕ) → to' ≡ to + length (point_bytes s) → out' ≡ splice out to (point_bytes s)
        → Showing out₀ at from e out' to' (j + 1)
    unfolding object_bytes
    shown more s hs out' to' ht ho =
        let tl : List ℕ = object_bytes (point_objects i K.Binary (j + 1) (e - (j + 1))) in
        let one : length (point_bytes s) ≡ 1 = length-binary s _ hs in
        record {
          ahead =
              ap (λ (d : List ℕ). splice d to' tl) ho
              ∙ ap (λ (q : ℕ). splice (splice out to (point_bytes s)) q tl) ht
              ∙ sym (splice-append out to (point_bytes s) tl)
              ∙ ap (λ (x : ShownPoint). splice out to (point_bytes x ++ tl)) hs
              ∙ ap (λ (os : List Object). splice out to (object_bytes os)) (sym (points-next i K.Binary j e more))
              ∙ g.ahead;
          long = ap length ho ∙ length-splice out to (point_bytes s) ∙ g.long;
          room = omega (arith, g.room);
        }

    pub all_shown : e ≤ j → out ≡ splice out₀ at (object_bytes (point_objects i K.Binary from (e - from)))
    unfolding object_bytes
    all_shown h = sym (ap (λ (os : List Object). splice out to (object_bytes os)) (points-over i K.Binary j e h) ∙ splice-nil out to) ∙ g.ahead

  -- a header, then what the points show
  pub binaries-put : (d d1 d2 : List ℕ) (at to from n : ℕ) → 0 < n → to ≡ at + 7 → d1 ≡ splice d at (static_heading K.Binary 2 from (n - 1 + 1))
      → d2 ≡ splice d1 to (object_bytes (point_objects i K.Binary from n)) → d2 ≡ splice d at (range_bytes i K.Binary from n)
  binaries-put d d1 d2 at to from n h ht h1 h2 =
      let hd : List ℕ = static_heading K.Binary 2 from (n - 1 + 1) in
      let tl : List ℕ = object_bytes (point_objects i K.Binary from n) in
      let t : to ≡ at + length hd = ht ∙ ap (λ (q : ℕ). at + q) (sym (heading-length K.Binary 2 from (n - 1 + 1))) in
      h2
      ∙ ap (λ (x : List ℕ). splice x to tl) h1
      ∙ ap (λ (q : ℕ). splice (splice d at hd) q tl) t
      ∙ sym (splice-append d at hd tl)
      ∙ ap (splice d at) (sym (binaries-some from n h))
