-- Laws of a loop that writes objects and puts a run's header once the run ends, at the place left free for it.
-- Assumes nothing.
use mathlib.Core.Path.{◌≡◌, refl, sym, ap, ◌∙◌}
use mathlib.Core.Bool.{Bool, cond}
use mathlib.Core.List.{List, [], ◌∷◌, ◌++◌}
use Prim.Native.Nat.{ℕ, suc, ◌+◌, ◌≤◌, ◌<◌}
use native.Mathlib.Omega.{arith}
use borrow.Author.Tests.{ne_eqb}
use lib.Dec.{eqb}
use lib.ListN.{length, set}
use lib.Seq.{set_comm}
use Rattle.octets.specs.Bytes.{splice}
use Rattle.octets.proofs.Splice.{splice-append, splice-nil, length-splice}
use Rattle.objects.specs.Runs.{Object, Heading, encoded, lead, following, size_after}
use Rattle.objects.proofs.RunLaws.{lead-nil, lead-same, lead-other, size-nil, size_same, size-new, following-nil, following-same, following-new, from-none}
use Rattle.objects.proofs.WriterLaws.{encoded-size}

-- ---- stores apart from one another, in either order

set_before : (d : List ℕ) (a x b : ℕ) (t : List ℕ) → a < b → set (splice d b t) a x ≡ splice (set d a x) b t
unfolding splice
set_before d a x b [] h = refl
set_before d a x b (y ∷ t) h =
    let l : a < b + 1 = omega arith in
    set_before (set d b y) a x (b + 1) t l ∙ ap (λ (e : List ℕ). splice e (b + 1) t) (sym (set_comm d a b x y (λ e. omega (arith, e))))

pub splice-before : (d : List ℕ) (a : ℕ) (s : List ℕ) (b : ℕ) (t : List ℕ) → a + length s ≤ b → splice (splice d b t) a s ≡ splice (splice d a s) b t
unfolding splice
splice-before d a [] b t h = refl
splice-before d a (x ∷ s) b t h =
    ap (λ (e : List ℕ). splice e (a + 1) s) (set_before d a x b t (omega arith)) ∙ splice-before (set d a x) (a + 1) s b t (omega arith)

-- the header of a run of the kind k; 0 stands for no run
abbrev pub top : Heading → ℕ → ℕ → ℕ → List ℕ
top head k first n = cond (eqb k 0) [] (head k first n)

module _ (head : Heading) (h : ℕ) where
  -- the run has its header's place at `run`, and m objects after its first; the objects ys are to be put at `to`; in all, `whole` at `at`
  pub record Running (out₀ : List ℕ) (at : ℕ) (whole : List Object) (out : List ℕ) (to run last first m : ℕ) (ys : List Object) : Type 0 where
    pub left : splice (splice out run (top head last first (m + lead last ys + 1))) to (following head last ys) ≡ splice out₀ at (following head 0 whole)
    pub long : length out ≡ length out₀
    pub room : to + size_after h last ys ≡ at + size_after h 0 whole
    pub fits : at + size_after h 0 whole ≤ length out₀
    pub apart : (n : ℕ) → run + length (top head last first n) ≤ to

module _ (head : Heading) (h : ℕ) (fixed : (k i n : ℕ) → length (head k i n) ≡ h) where
  module _ (out₀ : List ℕ) (at : ℕ) (whole : List Object) (none : lead 0 whole ≡ 0) where
    -- no run is open: where one would stand, and which its first would be, is any
    starting : (run first : ℕ) → run ≤ at → at + length (encoded head whole) ≤ length out₀ → Running head h out₀ at whole out₀ at run 0 first 0 whole
    starting run first b r =
        record {
          left = ap (λ (d : List ℕ). splice d at (following head 0 whole)) (splice-nil out₀ run);
          long = refl;
          room = refl;
          fits = omega (arith, encoded-size head h fixed whole none);
          apart = λ n. omega (arith, b);
        }

    pub running-start : (first : ℕ) → at + length (encoded head whole) ≤ length out₀ → Running head h out₀ at whole out₀ at at 0 first 0 whole
    running-start first r = starting at first (omega arith) r

    -- with the numbers that stand for no run
    pub running-none : at + length (encoded head whole) ≤ length out₀ → Running head h out₀ at whole out₀ at 0 0 0 0 whole
    running-none r = starting 0 0 (omega arith) r

    -- the last run's header is put
    pub running-end : (out : List ℕ) (to run last first m : ℕ) (ys : List Object) → Running head h out₀ at whole out to run last first m ys → ys ≡ []
        → (out' : List ℕ) → out' ≡ splice out run (top head last first (m + 1))
        → (to ≡ at + length (encoded head whole)) × (out' ≡ splice out₀ at (encoded head whole))
    running-end out to run last first m ys g e out' ho =
        let z : m + 1 ≡ m + lead last ys + 1 = omega (arith, ap (lead last) e ∙ lead-nil last) in (
          omega (arith, g.room, ap (size_after h last) e ∙ size-nil h last, encoded-size head h fixed whole none),
          ho
              ∙ ap (λ (n : ℕ). splice out run (top head last first n)) z
              ∙ sym
              (ap (splice (splice out run (top head last first (m + lead last ys + 1))) to) (ap (following head last) e ∙ following-nil head last)
              ∙ splice-nil (splice out run (top head last first (m + lead last ys + 1))) to)
              ∙ g.left
              ∙ ap (splice out₀ at) (from-none head whole none),
        )

  module _ {out₀ : List ℕ} {at : ℕ} {whole : List Object} {out : List ℕ} {to run last first m : ℕ} {ys : List Object} (g : Running head h out₀ at whole out to run last first m ys) where
    -- the header of the run has its place
    pub top-fits : run + length (top head last first (m + 1)) ≤ length out
    top-fits = omega (arith, g.apart (m + 1), g.room, g.fits, g.long)

    -- the turn writes x, whose kind the code has as k and whose bytes as b
    module _ (x : Object) (xs : List Object) (e : ys ≡ x ∷ xs) (k : ℕ) (hk : k ≡ x.kind) (b : List ℕ) (hb : b ≡ x.bytes) where
      size-b : length x.bytes ≡ length b
      size-b = ap length (sym hb)

      -- in the run
      module _ (same : k ≡ last) where
        kind-last : x.kind ≡ last
        kind-last = sym hk ∙ same

        size-as : size_after h last ys ≡ length b + size_after h last xs
        size-as =
            ap (size_after h last) e ∙ size_same x xs h last kind-last
            ∙ ap (λ (n : ℕ). n + size_after h x.kind xs) size-b
            ∙ ap (λ (q : ℕ). length b + size_after h q xs) kind-last

        pub joined-fits : to + length b ≤ length out
        joined-fits = omega (arith, size-as, g.room, g.fits, g.long)

        pub joined : (out' : List ℕ) (to' : ℕ) → to' ≡ to + length b → out' ≡ splice out to b → Running head h out₀ at whole out' to' run last first (m + 1) xs
        joined out' to' ht ho =
            let tl : List ℕ = following head last xs in
            let t : List ℕ = top head last first (m + 1 + lead last xs + 1) in
            let f : following head last ys ≡ b ++ tl =
            ap (following head last) e ∙ following-same x xs head last kind-last
            ∙ ap (λ (c : List ℕ). c ++ following head x.kind xs) (sym hb)
            ∙ ap (λ (q : ℕ). b ++ following head q xs) kind-last in
            let n : m + 1 + lead last xs + 1 ≡ m + lead last ys + 1 = omega (arith, ap (lead last) e ∙ lead-same x xs last kind-last) in
            record {
              left =
                  ap (λ (d : List ℕ). splice (splice d run t) to' tl) ho
                  ∙ ap (λ (q : ℕ). splice (splice (splice out to b) run t) q tl) ht
                  ∙ ap (λ (d : List ℕ). splice d (to + length b) tl) (splice-before out run t to b (g.apart (m + 1 + lead last xs + 1)))
                  ∙ sym (splice-append (splice out run t) to b tl)
                  ∙ ap (splice (splice out run t) to) (sym f)
                  ∙ ap (λ (q : ℕ). splice (splice out run (top head last first q)) to (following head last ys)) n
                  ∙ g.left;
              long = ap length ho ∙ length-splice out to b ∙ g.long;
              room = omega (arith, size-as, g.room);
              fits = g.fits;
              apart = λ q. omega (arith, g.apart q);
            }

      -- in a run of its own
      module _ (new : k ≡ last → ⊥) where
        other : x.kind ≡ last → ⊥
        other q = new (hk ∙ q)

        size-own : size_after h last ys ≡ h + length b + size_after h k xs
        size-own =
            ap (size_after h last) e ∙ size-new x xs h last other
            ∙ ap (λ (n : ℕ). h + n + size_after h x.kind xs) size-b
            ∙ ap (λ (q : ℕ). h + length b + size_after h q xs) (sym hk)

        pub begun-fits : to + h + length b ≤ length out
        begun-fits = omega (arith, size-own, g.room, g.fits, g.long)

        pub begun : (k ≡ 0 → ⊥) → (to2 : ℕ) (out1 out2 : List ℕ) → out1 ≡ splice out run (top head last first (m + 1))
            → to2 ≡ to + h + length b → out2 ≡ splice out1 (to + h) b → Running head h out₀ at whole out2 to2 to k x.index 0 xs
        begun some to2 out1 out2 ho1 ht2 ho2 =
            let hd : List ℕ = head k x.index (suc (lead k xs)) in
            let tl : List ℕ = following head k xs in
            let is_top : (n : ℕ) → top head k x.index n ≡ head k x.index n = λ n. ap (λ (t : Bool). cond t [] (head k x.index n)) (ne_eqb k 0 some) in
            let one : 0 + lead k xs + 1 ≡ suc (lead k xs) = omega arith in
            let z : m + 1 ≡ m + lead last ys + 1 = omega (arith, ap (lead last) e ∙ lead-other x xs last other) in
            let len : length hd ≡ h = fixed k x.index (suc (lead k xs)) in
            let f : following head last ys ≡ hd ++ (b ++ tl) =
            ap (following head last) e ∙ following-new x xs head last other
            ∙ ap (λ (q : ℕ). head q x.index (suc (lead q xs)) ++ (x.bytes ++ following head q xs)) (sym hk)
            ∙ ap (λ (c : List ℕ). hd ++ (c ++ tl)) (sym hb) in
            record {
              left =
                  ap (λ (d : List ℕ). splice (splice out2 to d) to2 tl) (is_top (0 + lead k xs + 1) ∙ ap (head k x.index) one)
                  ∙ ap (λ (d : List ℕ). splice (splice d to hd) to2 tl) ho2
                  ∙ ap (λ (q : ℕ). splice (splice (splice out1 (to + h) b) to hd) q tl) ht2
                  ∙ ap (λ (d : List ℕ). splice d (to + h + length b) tl) (splice-before out1 to hd (to + h) b (omega arith))
                  ∙ sym (splice-append (splice out1 to hd) (to + h) b tl)
                  ∙ ap (λ (q : ℕ). splice (splice out1 to hd) (to + q) (b ++ tl)) (sym len)
                  ∙ sym (splice-append out1 to hd (b ++ tl))
                  ∙ ap (splice out1 to) (sym f)
                  ∙ ap (λ (d : List ℕ). splice d to (following head last ys)) (ho1 ∙ ap (λ (n : ℕ). splice out run (top head last first n)) z)
                  ∙ g.left;
              long = ap length ho2 ∙ length-splice out1 (to + h) b ∙ ap length ho1 ∙ length-splice out run (top head last first (m + 1)) ∙ g.long;
              room = omega (arith, size-own, g.room);
              fits = g.fits;
              apart = λ n. omega (arith, ap length (is_top n), fixed k x.index n);
            }
