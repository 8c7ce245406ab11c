-- Laws of runs: written an object at a time, a header where the kind changes, the bytes are those of the runs.
-- Assumes nothing.
use mathlib.Core.Path.{◌≡◌, refl, sym, ap, ap₂, ◌∙◌}
use mathlib.Core.Bool.{Bool, true, false, cond}
use mathlib.Core.List.{List, [], ◌∷◌, ◌++◌, append_assoc}
use Prim.Native.Nat.{ℕ, suc, ◌+◌}
use native.Mathlib.Omega.{arith}
use borrow.Author.Tests.{eqb-true, eq-eqb, ne_eqb}
use lib.Dec.{eqb}
use lib.ListN.{length, length-append}
use Rattle.objects.specs.Runs.{Object, alike, join, runs, Heading, object_bytes, all_bytes, encoded, lead, following, size_after}

-- the objects that an object joins, and the runs after them
near : Object → List (List Object) → List Object
near x [] = []
near x (r ∷ rs) = cond (alike x r) r []

beyond : Object → List (List Object) → List (List Object)
beyond x [] = []
beyond x (r ∷ rs) = cond (alike x r) rs (r ∷ rs)

shape : (x : Object) (rs : List (List Object)) → join x rs ≡ (x ∷ near x rs) ∷ beyond x rs
unfolding near beyond
shape x [] = refl
shape x (r ∷ rs) = go (alike x r)
  where
    go : (b : Bool) → cond b ((x ∷ r) ∷ rs) ((x ∷ []) ∷ r ∷ rs) ≡ (x ∷ cond b r []) ∷ cond b rs (r ∷ rs)
    go true = refl
    go false = refl

runs-shape : (x : Object) (xs : List Object) → runs (x ∷ xs) ≡ (x ∷ near x (runs xs)) ∷ beyond x (runs xs)
unfolding runs
runs-shape x xs = shape x (runs xs)

module _ (head : Heading) where
  -- what stands behind an object: the rest of its run, and the runs after it
  record Behind (x : Object) (xs : List Object) : Type 0 where
    pub many : length (near x (runs xs)) ≡ lead x.kind xs
    pub all : object_bytes (near x (runs xs)) ++ all_bytes head (beyond x (runs xs)) ≡ following head x.kind xs

  front : (x : Object) (xs : List Object) → Behind x xs
      → all_bytes head (runs (x ∷ xs)) ≡ (head x.kind x.index (suc (lead x.kind xs)) ++ x.bytes) ++ following head x.kind xs
  unfolding all_bytes object_bytes
  front x xs b =
      let r : List Object = near x (runs xs) in
      let rs : List (List Object) = beyond x (runs xs) in
      let h : List ℕ = head x.kind x.index (suc (length r)) in
      ap (all_bytes head) (runs-shape x xs)
      ∙ append_assoc h (x.bytes ++ object_bytes r) (all_bytes head rs)
      ∙ ap (λ (l : List ℕ). h ++ l) (append_assoc x.bytes (object_bytes r) (all_bytes head rs) ∙ ap (λ (l : List ℕ). x.bytes ++ l) b.all)
      ∙ sym (append_assoc h x.bytes (following head x.kind xs))
      ∙ ap (λ (n : ℕ). (head x.kind x.index (suc n) ++ x.bytes) ++ following head x.kind xs) b.many

  Split : Bool → Object → Object → List Object → Type 0
  Split b x y ys =
      (length (cond b (y ∷ near y (runs ys)) []) ≡ cond b (suc (lead x.kind ys)) 0)
      × (object_bytes (cond b (y ∷ near y (runs ys)) []) ++ all_bytes head (cond b (beyond y (runs ys)) ((y ∷ near y (runs ys)) ∷ beyond y (runs ys)))
      ≡ (cond b [] (head y.kind y.index (suc (lead y.kind ys))) ++ y.bytes) ++ following head y.kind ys)

  split : (b : Bool) (x y : Object) (ys : List Object) → eqb y.kind x.kind ≡ b → Behind y ys → Split b x y ys
  unfolding Split object_bytes
  split true x y ys e h = (
    ap suc (h.many ∙ ap (λ (k : ℕ). lead k ys) (eqb-true y.kind x.kind e)),
    append_assoc y.bytes (object_bytes (near y (runs ys))) (all_bytes head (beyond y (runs ys))) ∙ ap (λ (l : List ℕ). y.bytes ++ l) h.all,
  )
  split false x y ys e h = (refl, ap (all_bytes head) (sym (runs-shape y ys)) ∙ front y ys h)

  behinds : (x : Object) (xs : List Object) → Behind x xs
  unfolding runs near beyond object_bytes all_bytes lead following Split
  behinds x [] = record { many = refl; all = refl }
  behinds x (y ∷ ys) =
      let s : Split (eqb y.kind x.kind) x y ys = split (eqb y.kind x.kind) x y ys refl (behinds y ys) in
      record {
        many = rw (runs-shape y ys) s.0;
        all = rw (runs-shape y ys) s.1;
      }

  -- the whole, where no object has the kind 0
  pub from-none : (xs : List Object) → lead 0 xs ≡ 0 → following head 0 xs ≡ encoded head xs
  unfolding following encoded all_bytes runs lead
  from-none [] h = refl
  from-none (x ∷ xs) h = go (eqb x.kind 0) h
    where
      go : (b : Bool) → cond b (suc (lead 0 xs)) 0 ≡ 0
          → (cond b [] (head x.kind x.index (suc (lead x.kind xs))) ++ x.bytes) ++ following head x.kind xs ≡ all_bytes head (runs (x ∷ xs))
      go true h = absurd (omega arith)
      go false h = sym (front x xs (behinds x xs))

  -- ---- the size

  pub size-after : (h : ℕ) → ((k i n : ℕ) → length (head k i n) ≡ h) → (last : ℕ) (xs : List Object) → length (following head last xs) ≡ size_after h last xs
  unfolding following size_after
  size-after h fixed last [] = refl
  size-after h fixed last (x ∷ xs) =
      length-append (cond (eqb x.kind last) [] (head x.kind x.index (suc (lead x.kind xs))) ++ x.bytes) (following head x.kind xs)
      ∙ ap₂ ◌+◌
      (length-append (cond (eqb x.kind last) [] (head x.kind x.index (suc (lead x.kind xs)))) x.bytes ∙ ap (λ (n : ℕ). n + length x.bytes) (go (eqb x.kind last)))
      (size-after h fixed x.kind xs)
    where
      go : (b : Bool) → length (cond b [] (head x.kind x.index (suc (lead x.kind xs)))) ≡ cond b 0 h
      go true = refl
      go false = fixed x.kind x.index (suc (lead x.kind xs))

-- ---- a turn of a writer's loop

pub lead-nil : (k : ℕ) → lead k [] ≡ 0
unfolding lead
lead-nil k = refl

pub size-nil : (h last : ℕ) → size_after h last [] ≡ 0
unfolding size_after
size-nil h last = refl

pub following-nil : (head : Heading) (last : ℕ) → following head last [] ≡ []
unfolding following
following-nil head last = refl

module _ (x : Object) (xs : List Object) where
  pub lead-same : (k : ℕ) → x.kind ≡ k → lead k (x ∷ xs) ≡ suc (lead k xs)
  unfolding lead
  lead-same k e = rw (eq-eqb x.kind k e)

  pub lead-other : (k : ℕ) → (x.kind ≡ k → ⊥) → lead k (x ∷ xs) ≡ 0
  unfolding lead
  lead-other k e = rw (ne_eqb x.kind k e)

  pub size_same : (h last : ℕ) → x.kind ≡ last → size_after h last (x ∷ xs) ≡ length x.bytes + size_after h x.kind xs
  unfolding size_after
  size_same h last e = rw (eq-eqb x.kind last e) (omega arith)

  pub size-new : (h last : ℕ) → (x.kind ≡ last → ⊥) → size_after h last (x ∷ xs) ≡ h + length x.bytes + size_after h x.kind xs
  unfolding size_after
  size-new h last e = rw (ne_eqb x.kind last e)

  pub following-same : (head : Heading) (last : ℕ) → x.kind ≡ last → following head last (x ∷ xs) ≡ x.bytes ++ following head x.kind xs
  unfolding following
  following-same head last e = rw (eq-eqb x.kind last e)

  pub following-new : (head : Heading) (last : ℕ) → (x.kind ≡ last → ⊥)
      → following head last (x ∷ xs) ≡ head x.kind x.index (suc (lead x.kind xs)) ++ (x.bytes ++ following head x.kind xs)
  unfolding following
  following-new head last e =
      rw (ne_eqb x.kind last e) (append_assoc (head x.kind x.index (suc (lead x.kind xs))) x.bytes (following head x.kind xs))
