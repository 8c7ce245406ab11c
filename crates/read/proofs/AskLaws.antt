-- Laws of the two loops over a READ's headers: what is asked for, and the static part that is put.
-- Assumes nothing.
use mathlib.Core.Path.{◌≡◌, refl, sym, ap, ◌∙◌}
use mathlib.Core.Bool.{Bool, true, false, cond, ◌||◌, or-false, or_assoc}
use mathlib.Core.List.{List, [], ◌∷◌, ◌++◌}
use Prim.Native.Nat.{ℕ, zero, suc, ◌+◌, ◌-◌, ◌*◌, ◌≤◌, ◌<◌, min}
use native.Mathlib.Omega.{arith}
use borrow.Author.Tests.{eqb-true}
use lib.Dec.{ltb, eqb}
use lib.ListN.{length, take, drop, length-append}
use Rattle.laws.proofs.Filling.{to_end}
use Rattle.laws.specs.Limits.{fragment_max, points_max}
use Rattle.octets.specs.Bytes.{splice}
use Rattle.octets.proofs.Splice.{splice-append, splice-nil, length-splice}
use Rattle.points.specs.PointsView.{PointsView}
use Rattle.point_store.specs.declared.Installed.{Installed}
use Rattle.point_store.specs.PointWords.{points_view_in}
use Rattle.events.specs.declared.Classes.{Classes}
use Rattle.std.specs.Prelude.{Option, None, Result, Ok, Err}
use Rattle.application.specs.declared.Fault.{Fault}
use Rattle.application.specs.declared.Fault.TheVariants.{BadParameter}
use Rattle.read_headers.specs.declared.Header.{Header}
use Rattle.read_headers.specs.declared.Front.{Front}
use Rattle.read_headers.specs.Headers.{front_header}
use Rattle.read_headers.specs.Parse.{Parsed, headers, fault, also, headers_max, headers_of, parse, fault_in, headers_in, is_class, asks_for}
use Rattle.read_headers.proofs.ParseLaws.{none-left, one-over, next-faulty, next-asked, Next, next, never-faulty}
use Rattle.static_objects.specs.Static.{header_bytes, static_bytes, sized, asked_of}
use Rattle.static_objects.proofs.AloneLaws.{binaries-count, analogs-count}
use Rattle.static_objects.proofs.HeaderLaws.{static-nil, static-cons}
use Rattle.read.specs.Response.{classes_of, request_of}
use Rattle.read.specs.declared.ReadRequest.{ReadRequest}
use Rattle.read.proofs.ResponseLaws.{fitting}

abbrev no_classes : Classes
no_classes = record { one = false; two = false; three = false }

length_zero : (s : List ℕ) → length s ≡ 0 → s ≡ []
length_zero [] h = refl
length_zero (x ∷ s) h = absurd (omega arith)

filled : (s : List ℕ) → eqb (length s) 0 ≡ false → 0 < length s
filled [] h = cc
filled (x ∷ s) h = omega arith

-- the bytes from at on, as the code lends them
abbrev pub part : List ℕ → ℕ → List ℕ
part s at = take (length s - at) (drop at s)

-- m₁ is m with the class of the header
abbrev pub Added : Classes → Option ℕ → Classes → Type 0
Added m class m₁ =
    (m₁.one ≡ (m.one || is_class 1 class)) × (m₁.two ≡ (m.two || is_class 2 class)) × (m₁.three ≡ (m.three || is_class 3 class))

asks-nil : (c : ℕ) → asks_for c [] ≡ false
unfolding asks_for
asks-nil c = refl

asks-cons : (c : ℕ) (h : Header) (hs : List Header) → asks_for c (h ∷ hs) ≡ (is_class c h.class || asks_for c hs)
unfolding asks_for
asks-cons c h hs = refl

module _ (i : PointsView) where
  -- ---- what is asked for

  -- what was gathered of the headers read, with what those to come ask for
  abbrev gathered : Classes → ℕ → Parsed → Result ReadRequest Fault
  gathered m size (headers hs) =
      Ok (record {
        size = size + length (static_bytes i hs);
        classes = record { one = m.one || asks_for 1 hs; two = m.two || asks_for 2 hs; three = m.three || asks_for 3 hs };
      })
  gathered m size (fault f) = Err f

  gathered_none : (p : Parsed) → gathered no_classes 0 p ≡ request_of i p
  gathered_none (headers hs) =
      let z : 0 + length (static_bytes i hs) ≡ length (static_bytes i hs) = omega arith in
      λ k. Ok (record { size = z k; classes = classes_of hs })
  gathered_none (fault f) = refl

  gathered-all : (m : Classes) (size : ℕ) → gathered m size (headers []) ≡ Ok (record { size = size; classes = m })
  gathered-all m size =
      let z : size + length (static_bytes i []) ≡ size = omega (arith, ap length (static-nil i)) in
      let one : (m.one || asks_for 1 []) ≡ m.one = ap (λ (x : Bool). m.one || x) (asks-nil 1) ∙ or-false m.one in
      let two : (m.two || asks_for 2 []) ≡ m.two = ap (λ (x : Bool). m.two || x) (asks-nil 2) ∙ or-false m.two in
      let three : (m.three || asks_for 3 []) ≡ m.three = ap (λ (x : Bool). m.three || x) (asks-nil 3) ∙ or-false m.three in
      λ k. Ok (record { size = z k; classes = record { one = one k; two = two k; three = three k } })

  -- one header more
  met-more : (c : ℕ) (h : Header) (hs : List Header) (seen now : Bool) → now ≡ (seen || is_class c h.class) → (now || asks_for c hs) ≡ (seen || asks_for c (h ∷ hs))
  met-more c h hs seen now e =
      ap (λ (x : Bool). x || asks_for c hs) e ∙ or_assoc seen (is_class c h.class) (asks_for c hs) ∙ ap (λ (x : Bool). seen || x) (sym (asks-cons c h hs))

  gathered-also : (m m₁ : Classes) (size bytes : ℕ) (h : Header) (p : Parsed) → Added m h.class m₁ → bytes ≡ length (header_bytes i h)
      → gathered m₁ (size + bytes) p ≡ gathered m size (also h p)
  gathered-also m m₁ size bytes h (headers hs) a e =
      let l : length (static_bytes i (h ∷ hs)) ≡ length (header_bytes i h) + length (static_bytes i hs) = ap length (static-cons i h hs) ∙ length-append (header_bytes i h) (static_bytes i hs) in
      let z : size + bytes + length (static_bytes i hs) ≡ size + length (static_bytes i (h ∷ hs)) = omega (arith, l, e) in
      let one = met-more 1 h hs m.one m₁.one a.0 in
      let two = met-more 2 h hs m.two m₁.two a.1 in
      let three = met-more 3 h hs m.three m₁.three a.2 in
      λ k. Ok (record { size = z k; classes = record { one = one k; two = two k; three = three k } })
  gathered-also m m₁ size bytes h (fault f) a e = refl

  -- what the loop knows: so many headers are read, and the rest of the bytes are still to be
  pub record Gathering (nb na : ℕ) (s rest : List ℕ) (m : Classes) (size count : ℕ) : Type 0 where
    pub ahead : gathered m size (headers_of nb na (headers_max - count) rest) ≡ request_of i (parse nb na s)
    pub small : size ≤ 1600000 * count

  pub gathering : (nb na : ℕ) (s : List ℕ) → Gathering nb na s s no_classes 0 0
  gathering nb na s = record { ahead = gathered_none (parse nb na s); small = omega arith }

  module _ (nb na : ℕ) (s rest : List ℕ) (m : Classes) (size count : ℕ) (g : Gathering nb na s rest m size count) where
    module _ (few : count < headers_max) (some : eqb (length rest) 0 ≡ false) where
      pub gather-faulty : (f : Fault) → front_header nb na rest ≡ Err f → Err f ≡ request_of i (parse nb na s)
      gather-faulty f e = sym (ap (gathered m size) (next-faulty nb na (headers_max - count) rest f (omega arith) (filled rest some) e)) ∙ g.ahead

      pub gather-more : (x : Front) → front_header nb na rest ≡ Ok x → (m₁ : Classes) (bytes : ℕ) → Added m x.header.class m₁
          → bytes ≡ length (header_bytes i x.header) → bytes ≤ 1600000
          → Gathering nb na s (part rest x.size) m₁ (size + bytes) (count + 1)
      gather-more x e m₁ bytes a l small =
          let k : headers_max - count - 1 ≡ headers_max - (count + 1) = omega arith in
          record {
            ahead =
                ap (λ (r : List ℕ). gathered m₁ (size + bytes) (headers_of nb na (headers_max - (count + 1)) r)) (to_end rest x.size)
                ∙ sym (ap (λ (j : ℕ). gathered m₁ (size + bytes) (headers_of nb na j (drop x.size rest))) k)
                ∙ gathered-also m m₁ size bytes x.header (headers_of nb na (headers_max - count - 1) (drop x.size rest)) a l
                ∙ sym (ap (gathered m size) (next-asked nb na (headers_max - count) rest x (omega arith) (filled rest some) e))
                ∙ g.ahead;
            small = omega (arith, g.small);
          }

    -- a byte after the last header that is allowed
    pub gather-over : count ≡ headers_max → eqb (length rest) 0 ≡ false → Err BadParameter ≡ request_of i (parse nb na s)
    gather-over e h = sym (ap (gathered m size) (one-over nb na (headers_max - count) rest (omega arith) (filled rest h))) ∙ g.ahead

    pub gather-all : eqb (length rest) 0 ≡ true → Ok (record { size = size; classes = m }) ≡ request_of i (parse nb na s)
    gather-all h =
        sym (gathered-all m size) ∙ sym (ap (gathered m size) (none-left nb na (headers_max - count) rest (length_zero rest (eqb-true _ _ h)))) ∙ g.ahead

  -- ---- "then static part plus 4 above 2,048, 2.2"

  -- what the code answers by the test of the size is what is asked for
  pub by_size : (r : ReadRequest) (p : Parsed) → Ok r ≡ request_of i p → (t : Bool) → ltb fragment_max (r.size + 4) ≡ t
      → cond t (Err BadParameter) (Ok r) ≡ request_of i (sized i p)
  by_size r (fault f) e t h = cc
  by_size r (headers hs) e t h =
      let q : r ≡ record { size = length (static_bytes i hs); classes = classes_of hs } = cc in
      let u : ltb fragment_max (length (static_bytes i hs) + 4) ≡ t = sym (ap (λ (x : ReadRequest). ltb fragment_max (x.size + 4)) q) ∙ h in
      rw u (by t)
    where
      by : (b : Bool) → cond b (Err BadParameter) (Ok r) ≡ request_of i (cond b (fault BadParameter) (headers hs))
      by true = refl
      by false = e

  -- a fault before the size is looked at
  pub fault-first : (f : Fault) (p : Parsed) → Err f ≡ request_of i p → Err f ≡ request_of i (sized i p)
  fault-first f (headers hs) e = cc
  fault-first f (fault g) e = e

  -- the counts that the code has are those of the inputs
  as-asked : (s : List ℕ) (nb na : ℕ) → nb ≡ length i.binaries → na ≡ length i.analogs → sized i (parse nb na s) ≡ asked_of i s
  as-asked s nb na b a = ap (λ (n : ℕ). sized i (parse n na s)) b ∙ ap (λ (n : ℕ). sized i (parse (length i.binaries) n s)) a

  -- of headers that fit, all that is read is asked for
  fits-as : (t : Bool) (hs : List Header) → fault_in (cond t (fault BadParameter) (headers hs)) ≡ None
      → headers (headers_in (cond t (fault BadParameter) (headers hs))) ≡ headers hs
  fits-as true hs e = cc
  fits-as false hs e = refl

  sized-as : (p : Parsed) → fault_in (sized i p) ≡ None → headers (headers_in (sized i p)) ≡ p
  sized-as (headers hs) e = fits-as (ltb fragment_max (length (static_bytes i hs) + 4)) hs e
  sized-as (fault f) e = cc

  pub read_as : (s : List ℕ) (nb na : ℕ) → sized i (parse nb na s) ≡ asked_of i s → fault_in (asked_of i s) ≡ None
      → headers (headers_in (asked_of i s)) ≡ parse nb na s
  read_as s nb na e f = ap (λ (p : Parsed). headers (headers_in p)) (sym e) ∙ sized-as (parse nb na s) (ap fault_in e ∙ f)

  -- what is asked for, by what the code has of it
  pub record AskedFor (r : ReadRequest) (p : Parsed) : Type 0 where
    pub read : headers (headers_in p) ≡ p
    pub size : r.size ≡ length (static_bytes i (headers_in p))
    pub classes : r.classes ≡ classes_of (headers_in p)
    pub faultless : fault_in p ≡ None

  pub asked-for : (r : ReadRequest) (p : Parsed) → Ok r ≡ request_of i p → AskedFor r p
  asked-for r (fault f) e = cc
  asked-for r (headers hs) e =
      let q : r ≡ record { size = length (static_bytes i hs); classes = classes_of hs } = cc in
      record { read = refl; size = ap (λ (x : ReadRequest). x.size) q; classes = ap (λ (x : ReadRequest). x.classes) q; faultless = refl }

  pub asked-fits : (s : List ℕ) (r : ReadRequest) → Ok r ≡ request_of i (asked_of i s) → r.size + 4 ≤ fragment_max
  asked-fits s r e =
      let a = asked-for r (asked_of i s) e in
      omega (arith, a.size, fitting i (parse (length i.binaries) (length i.analogs) s) (headers_in (asked_of i s)) a.read)

  pub asked-fault : (f : Fault) (p : Parsed) → Err f ≡ request_of i p → fault f ≡ p
  asked-fault f (headers hs) e = cc
  asked-fault f (fault g) e = cc

  -- ---- the static part: what is put of the headers read, with what those to come put, is all of it

  pub record Putting (nb na : ℕ) (s : List ℕ) (hs : List Header) (out₀ : List ℕ) (from : ℕ) (out : List ℕ) (to : ℕ) (rest : List ℕ) : Type 0 where
    pub allowed : ℕ
    pub others : List Header
    pub read : headers_of nb na allowed rest ≡ headers others
    pub ahead : splice out to (static_bytes i others) ≡ splice out₀ from (static_bytes i hs)
    pub long : length out ≡ length out₀
    pub room : to + length (static_bytes i others) ≡ from + length (static_bytes i hs)
    pub fits : from + length (static_bytes i hs) ≤ length out₀

  pub putting : (nb na : ℕ) (s : List ℕ) (hs : List Header) (out : List ℕ) (from : ℕ) → headers hs ≡ parse nb na s → from + length (static_bytes i hs) ≤ length out
      → Putting nb na s hs out from out from s
  putting nb na s hs out from e f = record { allowed = headers_max; others = hs; read = sym e; ahead = refl; long = refl; room = refl; fits = f }

  module _ (nb na : ℕ) (s : List ℕ) (hs : List Header) (out₀ : List ℕ) (from : ℕ) (out : List ℕ) (to : ℕ) (rest : List ℕ) (g : Putting nb na s hs out₀ from out to rest) where
    module _ (some : 0 < length rest) (x : Front) (e : front_header nb na rest ≡ Ok x) where
      front : Next nb na g.allowed rest x g.others
      front = next nb na rest g.others some g.allowed g.read x e

      both : static_bytes i g.others ≡ header_bytes i x.header ++ static_bytes i front.others
      both = ap (static_bytes i) front.both ∙ static-cons i x.header front.others

      long-both : length (static_bytes i g.others) ≡ length (header_bytes i x.header) + length (static_bytes i front.others)
      long-both = ap length both ∙ length-append (header_bytes i x.header) (static_bytes i front.others)

      pub put-room : to + length (header_bytes i x.header) ≤ length out
      put-room = omega (arith, long-both, g.room, g.fits, g.long)

      pub put-more : (out₁ : List ℕ) (to₁ : ℕ) → to₁ ≡ to + length (header_bytes i x.header) → out₁ ≡ splice out to (header_bytes i x.header)
          → Putting nb na s hs out₀ from out₁ to₁ (part rest x.size)
      put-more out₁ to₁ ht ho =
          let y : List ℕ = header_bytes i x.header in
          let z : List ℕ = static_bytes i front.others in
          record {
            allowed = g.allowed - 1;
            others = front.others;
            read = ap (headers_of nb na (g.allowed - 1)) (to_end rest x.size) ∙ front.read;
            ahead =
                ap (λ (d : List ℕ). splice d to₁ z) ho
                ∙ ap (λ (q : ℕ). splice (splice out to y) q z) ht
                ∙ sym (splice-append out to y z)
                ∙ ap (splice out to) (sym both)
                ∙ g.ahead;
            long = ap length ho ∙ length-splice out to y ∙ g.long;
            room = omega (arith, long-both, g.room);
            fits = g.fits;
          }

    -- the loop ends at a fault: that is the end of the bytes
    at-end : (f : Fault) → front_header nb na rest ≡ Err f → length rest ≡ 0
    at-end f e = go (length rest) refl
      where
        go : (n : ℕ) → length rest ≡ n → n ≡ 0
        go zero h = refl
        go (suc n) h = absurd (never-faulty nb na rest g.others (omega arith) g.allowed g.read f e)

    pub put_all : (f : Fault) → front_header nb na rest ≡ Err f → (to ≡ from + length (static_bytes i hs)) × (out ≡ splice out₀ from (static_bytes i hs))
    put_all f e =
        let none : g.others ≡ [] = ap headers_in (sym g.read ∙ none-left nb na g.allowed rest (length_zero rest (at-end f e))) in
        let gone : static_bytes i g.others ≡ [] = ap (static_bytes i) none ∙ static-nil i in (
          omega (arith, ap length gone, g.room),
          sym (ap (splice out to) gone ∙ splice-nil out to) ∙ g.ahead,
        )

-- ---- the counts that the code has, of inputs in lent words

pub by-counts : (n : Installed) (b a s : List ℕ) (nb na : ℕ) → nb ≡ min n.binaries points_max → na ≡ min n.analogs points_max
    → sized (points_view_in n b a) (parse nb na s) ≡ asked_of (points_view_in n b a) s
by-counts n b a s nb na x y = as-asked (points_view_in n b a) s nb na (binaries-count n b a nb x) (analogs-count n b a na y)
