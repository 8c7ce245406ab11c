-- Laws of a READ's headers for loops over its bytes: what one header and the bytes after it say of all.
-- Assumes nothing.
use mathlib.Core.Path.{◌≡◌, refl, sym, ap, ◌∙◌, subst}
use mathlib.Core.Bool.{Bool, true, false, not, cond}
use Rattle.std.specs.Prelude.{Option, Some, None, Result, Ok, Err}
use mathlib.Core.List.{List, [], ◌∷◌}
use Prim.Native.Nat.{ℕ, zero, suc, ◌+◌, ◌-◌, ◌≤◌, ◌<◌}
use native.Mathlib.Omega.{arith}
use lib.ListN.{length, get_or, drop}
use lib.Dec.{ltb, leb, eqb}
use Rattle.octets.specs.Bytes.{value_at}
use Rattle.application.specs.declared.Fault.{Fault}
use Rattle.application.specs.declared.Fault.TheVariants.{BadParameter}
use Rattle.read_headers.specs.Headers.{front_header, by_object, object_of, point_header, range_header, points_from, every_point, events_of, asked, bad}
use Rattle.read_headers.specs.Parse.{Parsed, headers, fault, headers_in, also, headers_of}
use Rattle.read_headers.specs.declared.Header.{Header}
use Rattle.read_headers.specs.declared.Front.{Front}
use Rattle.read_headers.specs.declared.PointKind.{PointKind}
use Rattle.read_headers.specs.declared.PointKind.TheVariants.{Binary, Analog}
use Rattle.read_headers.specs.declared.Object.{Object}
use Rattle.read_headers.specs.declared.Object.TheVariants.{Class, Points}

-- ---- a header has 3 to 7 bytes

abbrev Small : Result Front Fault → Type 0
Small (Ok x) = (3 ≤ x.size) × (x.size ≤ 7)
Small (Err f) = f ≡ f

small-cond : (t : Bool) (a b : Result Front Fault) → Small a → Small b → Small (cond t a b)
small-cond true a b p q = p
small-cond false a b p q = q

small-range : (a : PointKind) (n left size start stop : ℕ) → (3 ≤ size) × (size ≤ 7) → Small (range_header a n left size start stop)
small-range a n left size start stop h =
    let x : Result Front Fault = asked (points_from a start (stop - start + 1)) size in
    let inside : Result Front Fault = cond (leb n stop) bad x in
    small-cond (ltb left size) bad (cond (ltb stop start) bad inside) refl
    (small-cond (ltb stop start) bad inside refl (small-cond (leb n stop) bad x refl h))

small-point : (a : PointKind) (n : ℕ) (s : List ℕ) → Small (point_header a n s)
small-point a n s =
    let every : Result Front Fault = asked (points_from a 0 n) 3 in
    let bytes : Result Front Fault = range_header a n (length s) 5 (get_or s 3 0) (get_or s 4 0) in
    let pairs : Result Front Fault = range_header a n (length s) 7 (value_at 2 3 s) (value_at 2 5 s) in
    let by_two : Result Front Fault = cond (eqb (get_or s 2 0) 1) pairs bad in
    small-cond (eqb (get_or s 2 0) 6) every (cond (eqb (get_or s 2 0) 0) bytes by_two) (omega arith, omega arith)
    (small-cond (eqb (get_or s 2 0) 0) bytes by_two (small-range a n (length s) 5 (get_or s 3 0) (get_or s 4 0) (omega arith, omega arith))
    (small-cond (eqb (get_or s 2 0) 1) pairs bad (small-range a n (length s) 7 (value_at 2 3 s) (value_at 2 5 s) (omega arith, omega arith)) refl))

small-object : (o : Option Object) (nb na : ℕ) (s : List ℕ) → Small (by_object o nb na s)
small-object (Some (Class c)) nb na s =
    let every : Result Front Fault = asked (every_point nb na) 3 in
    let events : Result Front Fault = asked (events_of c) 3 in
    small-cond (not (eqb (get_or s 2 0) 6)) bad (cond (eqb c 0) every events) refl (small-cond (eqb c 0) every events (omega arith, omega arith) (omega arith, omega arith))
small-object (Some (Points Binary)) nb na s = small-point Binary nb s
small-object (Some (Points Analog)) nb na s = small-point Analog na s
small-object None nb na s = refl

small : (nb na : ℕ) (s : List ℕ) → Small (front_header nb na s)
small nb na s =
    let o : Option Object = object_of (get_or s 0 0) (get_or s 1 0) in
    small-cond (ltb (length s) 3) bad (by_object o nb na s) refl (small-object o nb na s)

pub asked-small : (nb na : ℕ) (s : List ℕ) (x : Front) → front_header nb na s ≡ Ok x → (3 ≤ x.size) × (x.size ≤ 7)
asked-small nb na s x e = subst (λ (t : Result Front Fault). Small t) e (small nb na s)

-- ---- the definition, a turn at a time

module _ (nb na : ℕ) where
  pub none-left : (k : ℕ) (s : List ℕ) → s ≡ [] → headers_of nb na k s ≡ headers []
  unfolding headers_of
  none-left zero [] h = refl
  none-left (suc k) [] h = refl
  none-left k (b ∷ bs) h = cc

  pub one-over : (k : ℕ) (s : List ℕ) → k ≡ 0 → 0 < length s → headers_of nb na k s ≡ fault BadParameter
  unfolding headers_of
  one-over k [] e h = absurd (omega arith)
  one-over zero (b ∷ bs) e h = refl
  one-over (suc k) (b ∷ bs) e h = absurd (omega arith)

  pub next-asked : (k : ℕ) (s : List ℕ) (x : Front) → 0 < k → 0 < length s → front_header nb na s ≡ Ok x
      → headers_of nb na k s ≡ also x.header (headers_of nb na (k - 1) (drop x.size s))
  unfolding headers_of
  next-asked k [] x p q e = absurd (omega arith)
  next-asked zero (b ∷ bs) x p q e = absurd (omega arith)
  next-asked (suc k) (b ∷ bs) x p q e =
      let m : k ≡ suc k - 1 = omega arith in
      rw e (ap (λ (j : ℕ). also x.header (headers_of nb na j (drop x.size (b ∷ bs)))) m)

  pub next-faulty : (k : ℕ) (s : List ℕ) (f : Fault) → 0 < k → 0 < length s → front_header nb na s ≡ Err f → headers_of nb na k s ≡ fault f
  unfolding headers_of
  next-faulty k [] f p q e = absurd (omega arith)
  next-faulty zero (b ∷ bs) f p q e = absurd (omega arith)
  next-faulty (suc k) (b ∷ bs) f p q e = rw e

-- ---- headers that are known to be read: the first of them, and the others

pub record Next (nb na k : ℕ) (s : List ℕ) (x : Front) (hs : List Header) : Type 0 where
  pub others : List Header
  pub read : headers_of nb na (k - 1) (drop x.size s) ≡ headers others
  pub both : hs ≡ x.header ∷ others

module _ (nb na : ℕ) (s : List ℕ) (hs : List Header) (some : 0 < length s) where
  allowed : (k : ℕ) → headers_of nb na k s ≡ headers hs → 0 < k
  allowed zero e =
      let f : headers_of nb na 0 s ≡ fault BadParameter = one-over nb na 0 s refl some in
      cc
  allowed (suc k) e = omega arith

  module _ (k : ℕ) (e : headers_of nb na k s ≡ headers hs) where
    pub never-faulty : (f : Fault) → front_header nb na s ≡ Err f → ⊥
    never-faulty f q =
        let g = next-faulty nb na k s f (allowed k e) some q in
        cc

    pub next : (x : Front) → front_header nb na s ≡ Ok x → Next nb na k s x hs
    next x q = go (headers_of nb na (k - 1) (drop x.size s)) refl
      where
        go : (p : Parsed) → headers_of nb na (k - 1) (drop x.size s) ≡ p → Next nb na k s x hs
        go (headers t) r =
            let a : headers (x.header ∷ t) ≡ headers hs = sym (ap (also x.header) r) ∙ sym (next-asked nb na k s x (allowed k e) some q) ∙ e in
            record { others = t; read = r; both = sym (ap headers_in a) }
        go (fault f) r =
            let a : fault f ≡ headers hs = sym (ap (also x.header) r) ∙ sym (next-asked nb na k s x (allowed k e) some q) ∙ e in
            cc
