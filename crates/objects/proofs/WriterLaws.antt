-- Laws of loops that go over objects one at a time: counting a run, adding up sizes, writing with a header where the kind changes.
-- Assumes nothing.
use mathlib.Core.Path.{◌≡◌, refl, sym, ap, ◌∙◌}
use mathlib.Core.List.{List, [], ◌∷◌, ◌++◌}
use Prim.Native.Nat.{ℕ, suc, ◌+◌, ◌≤◌}
use native.Mathlib.Omega.{arith}
use lib.ListN.{length, set}
use Rattle.octets.specs.Bytes.{splice}
use Rattle.octets.proofs.Splice.{splice-append, splice-cons, splice-nil, length-splice}
use Rattle.objects.specs.Runs.{Object, Heading, encoded, lead, following, size_after}
use Rattle.objects.proofs.RunLaws.{lead-nil, lead-same, lead-other, size-nil, size_same, size-new, following-nil, following-same, following-new, from-none, size-after}

-- three bytes stored one by one, and bytes after them
pub three-put : (d : List ℕ) (at g v q : ℕ) (s : List ℕ) → splice (set (set (set d at g) (at + 1) v) (at + 2) q) (at + 3) s ≡ splice d at (g ∷ v ∷ q ∷ s)
three-put d at g v q s =
    let o2 : at + 1 + 1 ≡ at + 2 = omega arith in
    let o3 : at + 2 + 1 ≡ at + 3 = omega arith in
    sym
    (splice-cons d at g (v ∷ q ∷ s)
    ∙ splice-cons (set d at g) (at + 1) v (q ∷ s)
    ∙ splice-cons (set (set d at g) (at + 1) v) (at + 1 + 1) q s
    ∙ ap (λ (k : ℕ). splice (set (set (set d at g) (at + 1) v) k q) (k + 1) s) o2
    ∙ ap (λ (k : ℕ). splice (set (set (set d at g) (at + 1) v) (at + 2) q) k s) o3)

-- ---- counting: m objects of the kind are counted, and the objects ys are to come

module _ (k m t : ℕ) (ys : List Object) (g : m + lead k ys ≡ t) where
  pub count_same : (x : Object) (xs : List Object) → ys ≡ x ∷ xs → x.kind ≡ k → m + 1 + lead k xs ≡ t
  count_same x xs e h = omega (arith, ap (lead k) e ∙ lead-same x xs k h)

  pub count-other : (x : Object) (xs : List Object) → ys ≡ x ∷ xs → (x.kind ≡ k → ⊥) → m ≡ t
  count-other x xs e h = omega (arith, ap (lead k) e ∙ lead-other x xs k h)

  pub count-end : ys ≡ [] → m ≡ t
  count-end e = omega (arith, ap (lead k) e ∙ lead-nil k)

-- ---- adding up: the objects ys are to come after one of the kind `last`, with headers of h bytes

module _ (h total t last : ℕ) (ys : List Object) (g : total + size_after h last ys ≡ t) where
  -- the turn adds x, whose kind the code has as k and whose size as n
  module _ (x : Object) (xs : List Object) (e : ys ≡ x ∷ xs) (k : ℕ) (hk : k ≡ x.kind) (n : ℕ) (hn : n ≡ length x.bytes) where
    pub sum_same : k ≡ last → total + n + size_after h last xs ≡ t
    sum_same same =
        let o : x.kind ≡ last = sym hk ∙ same in
        omega (arith, ap (size_after h last) e ∙ size_same x xs h last o, ap (λ (q : ℕ). size_after h q xs) o)

    pub sum-own : (k ≡ last → ⊥) → total + h + n + size_after h k xs ≡ t
    sum-own new =
        omega (arith, ap (size_after h last) e ∙ size-new x xs h last (λ q. new (hk ∙ q)), ap (λ (q : ℕ). size_after h q xs) hk)

  pub sum-end : ys ≡ [] → total ≡ t
  sum-end e = omega (arith, ap (size_after h last) e ∙ size-nil h last)

-- ---- writing: the objects ys are to be put at `to`, after one of the kind `last`; in all, `whole` at `at`

pub record Writing (head : Heading) (h : ℕ) (out₀ : List ℕ) (at : ℕ) (whole : List Object) (out : List ℕ) (to last : ℕ) (ys : List Object) : Type 0 where
  pub left : splice out to (following head last ys) ≡ splice out₀ at (following head 0 whole)
  pub long : length out ≡ length out₀
  pub room : to + size_after h last ys ≡ at + size_after h 0 whole
  pub fits : at + size_after h 0 whole ≤ length out₀

module _ (head : Heading) (h : ℕ) (fixed : (k i n : ℕ) → length (head k i n) ≡ h) where
  -- no object is of the kind 0, which stands for "after none"
  pub encoded-size : (xs : List Object) → lead 0 xs ≡ 0 → length (encoded head xs) ≡ size_after h 0 xs
  encoded-size xs none = ap length (sym (from-none head xs none)) ∙ size-after head h fixed 0 xs

  module _ (out₀ : List ℕ) (at : ℕ) (whole : List Object) (none : lead 0 whole ≡ 0) where
    pub writing_start : at + length (encoded head whole) ≤ length out₀ → Writing head h out₀ at whole out₀ at 0 whole
    writing_start r = record { left = refl; long = refl; room = refl; fits = omega (arith, encoded-size whole none) }

    pub writing-end : (out : List ℕ) (to last : ℕ) (ys : List Object) → Writing head h out₀ at whole out to last ys → ys ≡ []
        → (to ≡ at + length (encoded head whole)) × (out ≡ splice out₀ at (encoded head whole))
    writing-end out to last ys g e = (
      omega (arith, g.room, ap (size_after h last) e ∙ size-nil h last, encoded-size whole none),
      sym (ap (splice out to) (ap (following head last) e ∙ following-nil head last) ∙ splice-nil out to)
          ∙ g.left
          ∙ ap (splice out₀ at) (from-none head whole none),
    )

  module _ {out₀ : List ℕ} {at : ℕ} {whole : List Object} {out : List ℕ} {to last : ℕ} {ys : List Object} (g : Writing head h out₀ at whole out to last ys) where
    -- the turn passes over what is no object
    pub writing-passed : (xs : List Object) → ys ≡ xs → Writing head h out₀ at whole out to last xs
    writing-passed xs e = rw e at g

    -- the turn writes x, whose kind the code has as k and whose bytes as b
    module _ (x : Object) (xs : List Object) (e : ys ≡ x ∷ xs) (k : ℕ) (hk : k ≡ x.kind) (b : List ℕ) (hb : b ≡ x.bytes) where
      size-b : length x.bytes ≡ length b
      size-b = ap length (sym hb)

      -- under the header that stands
      module _ (same : k ≡ last) where
        kind-last : x.kind ≡ last
        kind-last = sym hk ∙ same

        size-as : size_after h last ys ≡ length b + size_after h last xs
        size-as =
            ap (size_after h last) e ∙ size_same x xs h last kind-last
            ∙ ap (λ (n : ℕ). n + size_after h x.kind xs) size-b
            ∙ ap (λ (q : ℕ). length b + size_after h q xs) kind-last

        pub same-fits : to + length b ≤ length out
        same-fits = omega (arith, size-as, g.room, g.fits, g.long)

        pub same-put : (out' : List ℕ) (to' : ℕ) → to' ≡ to + length b → out' ≡ splice out to b → Writing head h out₀ at whole out' to' last xs
        same-put out' to' ht ho =
            let tl : List ℕ = following head last xs in
            let f : following head last ys ≡ b ++ tl =
            ap (following head last) e ∙ following-same x xs head last kind-last
            ∙ ap (λ (c : List ℕ). c ++ following head x.kind xs) (sym hb)
            ∙ ap (λ (q : ℕ). b ++ following head q xs) kind-last in
            record {
              left =
                  ap (λ (d : List ℕ). splice d to' tl) ho
                  ∙ ap (λ (q : ℕ). splice (splice out to b) q tl) ht
                  ∙ sym (splice-append out to b tl)
                  ∙ ap (splice out to) (sym f)
                  ∙ g.left;
              long = ap length ho ∙ length-splice out to b ∙ g.long;
              room = omega (arith, size-as, g.room);
              fits = g.fits;
            }

      -- under a header of its own
      module _ (new : k ≡ last → ⊥) where
        other : x.kind ≡ last → ⊥
        other q = new (hk ∙ q)

        size-own : size_after h last ys ≡ h + length b + size_after h k xs
        size-own =
            ap (size_after h last) e ∙ size-new x xs h last other
            ∙ ap (λ (n : ℕ). h + n + size_after h x.kind xs) size-b
            ∙ ap (λ (q : ℕ). h + length b + size_after h q xs) (sym hk)

        pub own-fits : to + h + length b ≤ length out
        own-fits = omega (arith, size-own, g.room, g.fits, g.long)

        pub own_put : (m to1 to2 : ℕ) (out1 out2 : List ℕ) → m ≡ lead k xs → to1 ≡ to + h → out1 ≡ splice out to (head k x.index (m + 1))
            → to2 ≡ to1 + length b → out2 ≡ splice out1 to1 b → Writing head h out₀ at whole out2 to2 k xs
        own_put m to1 to2 out1 out2 hm ht1 ho1 ht2 ho2 =
            let hd : List ℕ = head k x.index (m + 1) in
            let tl : List ℕ = following head k xs in
            let count : m + 1 ≡ suc (lead k xs) = omega arith in
            let f : following head last ys ≡ hd ++ (b ++ tl) =
            ap (following head last) e ∙ following-new x xs head last other
            ∙ ap (λ (q : ℕ). head q x.index (suc (lead q xs)) ++ (x.bytes ++ following head q xs)) (sym hk)
            ∙ ap (λ (c : List ℕ). head k x.index (suc (lead k xs)) ++ (c ++ tl)) (sym hb)
            ∙ ap (λ (q : ℕ). head k x.index q ++ (b ++ tl)) (sym count) in
            let o1 : to1 ≡ to + length hd = ht1 ∙ ap (λ (q : ℕ). to + q) (sym (fixed k x.index (m + 1))) in
            record {
              left =
                  ap (λ (d : List ℕ). splice d to2 tl) ho2
                  ∙ ap (λ (q : ℕ). splice (splice out1 to1 b) q tl) ht2
                  ∙ sym (splice-append out1 to1 b tl)
                  ∙ ap (λ (d : List ℕ). splice d to1 (b ++ tl)) ho1
                  ∙ ap (λ (q : ℕ). splice (splice out to hd) q (b ++ tl)) o1
                  ∙ sym (splice-append out to hd (b ++ tl))
                  ∙ ap (splice out to) (sym f)
                  ∙ g.left;
              long = ap length ho2 ∙ length-splice out1 to1 b ∙ ap length ho1 ∙ length-splice out to hd ∙ g.long;
              room = omega (arith, size-own, g.room);
              fits = g.fits;
            }
