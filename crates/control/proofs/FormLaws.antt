-- Laws of a faultless form: its width, its count and the bytes; and of the echo's length.
-- Assumes nothing.
use mathlib.Core.Path.{◌≡◌, refl, sym, ap, ◌∙◌, subst}
use Rattle.std.specs.Prelude.{Result, Ok, Err}
use mathlib.Core.Bool.{Bool, true, false, cond, not}
use mathlib.Core.List.{List, [], ◌∷◌}
use Prim.Native.Nat.{ℕ, ◌+◌, ◌-◌, ◌*◌, ◌≤◌}
use native.Mathlib.Omega.{arith}
use borrow.Author.Tests.{eqb-true, leb-true}
use lib.Dec.{eqb, leb, ltb}
use lib.ListN.{length, get_or, take, drop, length-append, length-drop}
use lib.Seq.{length-take-le}
use Rattle.laws.proofs.AllLaws.{all-four}
use Rattle.laws.proofs.Choices.{by}
use Rattle.laws.proofs.Filling.{to_end}
use Rattle.octets.specs.Bytes.{splice}
use Rattle.octets.proofs.Splice.{splice-append}
use Rattle.application.specs.Response.{is_object}
use Rattle.application.specs.declared.Fault.{Fault}
use Rattle.application.specs.declared.Fault.TheVariants.{ObjectUnknown, BadParameter}
use Rattle.control.specs.declared.ObjectKind.{ObjectKind}
use Rattle.control.specs.declared.ObjectKind.TheVariants as K
use Rattle.control.specs.declared.Form.{Form}
use Rattle.control.specs.Objects.{objects_max, echo_max, value_size, width_of, span, count_of, exact, formed_as, formed}
use Rattle.control.specs.Status.{echoed, echo_of}
use Rattle.control.proofs.ObjectLaws.{value-most, span-most}

pub record Fitting (k : ObjectKind) (w n : ℕ) (o : List ℕ) : Type 0 where
  pub narrow : w ≤ 2
  pub few : n ≤ objects_max
  pub some : 1 ≤ n
  pub size : length o ≡ 3 + w + span w (value_size k) n
  pub short : length o ≤ echo_max

width-most : (q : ℕ) → width_of q ≤ 2
width-most q = go (eqb q 0x17) (eqb q 0x28) where
  go : (s t : Bool) → cond s 1 (cond t 2 0) ≤ 2
  go true t = omega arith
  go false true = omega arith
  go false false = omega arith

exact-fits : (k : ObjectKind) (w : ℕ) (o : List ℕ) → w ≤ 2 → exact (value_size k) w o ≡ true → Fitting k w (count_of w o) o
exact-fits k w o h e =
    let f = all-four (not (eqb w 0)) (eqb (length o) (3 + w + span w (value_size k) (count_of w o))) (leb 1 (count_of w o)) (leb (count_of w o) objects_max) e in
    let size : length o ≡ 3 + w + span w (value_size k) (count_of w o) = eqb-true _ _ f.1 in
    let some : 1 ≤ count_of w o = leb-true _ _ f.2 in
    let few : count_of w o ≤ objects_max = leb-true _ _ f.3 in
    let most : span w (value_size k) (count_of w o) ≤ 13 * count_of w o = span-most w (value_size k) h (value-most k) (count_of w o) in
    record { narrow = h; few = few; some = some; size = size; short = omega arith }

-- a form that is not wrong
module _ (o : List ℕ) (x : Form) where
  abbrev Fits : Type 0
  Fits = Fitting x.kind x.width x.count o

  as_fits : (j : ObjectKind) → formed_as j o ≡ Ok x → Fits
  as_fits j e =
      by (exact (value_size j) (width_of (get_or o 2 0)) o)
      (λ t.
      let d : ◌≡◌ {A = Result Form Fault} (Ok (record { kind = j; width = width_of (get_or o 2 0); count = count_of (width_of (get_or o 2 0)) o })) (Ok x) = rw t at e in
      let p : record { kind = j; width = width_of (get_or o 2 0); count = count_of (width_of (get_or o 2 0)) o } ≡ x = cc d in
      subst (λ (y : Form). Fitting y.kind y.width y.count o) p (exact-fits j (width_of (get_or o 2 0)) o (width-most (get_or o 2 0)) t))
      (λ t. let d : ◌≡◌ {A = Result Form Fault} (Err BadParameter) (Ok x) = rw t at e in cc)

  -- the test that holds decides
  one_of : (t : Bool) (a b : Result Form Fault) → (a ≡ Ok x → Fits) → (b ≡ Ok x → Fits) → cond t a b ≡ Ok x → Fits
  one_of true a b f g e = f e
  one_of false a b f g e = g e

  pub formed-fits : formed o ≡ Ok x → Fits
  formed-fits =
      one_of (ltb (length o) 3) (Err BadParameter) _ (λ e. cc)
      (one_of (is_object 12 1 o) _ _ (as_fits K.Crob)
      (one_of (is_object 41 1 o) _ _ (as_fits K.Int32)
      (one_of (is_object 41 2 o) _ _ (as_fits K.Int16)
      (one_of (is_object 41 3 o) _ (Err ObjectUnknown) (as_fits K.Float32) (λ e. cc)))))

-- ---- the echo is as long as the object bytes

echoed-length : (w z : ℕ) (ss b : List ℕ) → span w z (length ss) ≤ length b → length (echoed w z ss b) ≡ span w z (length ss)
unfolding echoed span
echoed-length w z [] b h = refl
echoed-length w z (s ∷ ss) b h =
    let l : length (take (w + z) b) ≡ w + z = length-take-le (w + z) b (omega arith) in
    let room : span w z (length ss) ≤ length (drop (w + z + 1) b) = simp length-drop (omega arith) in
    let ih : length (echoed w z ss (drop (w + z + 1) b)) ≡ span w z (length ss) = echoed-length w z ss (drop (w + z + 1) b) room in
    simp length-append (omega arith)

pub echo-length : (w z n : ℕ) (ss o : List ℕ) → length ss ≡ n → length o ≡ 3 + w + span w z n → length (echo_of w z ss o) ≡ length o
echo-length w z n ss o k h =
    let s : span w z (length ss) ≡ span w z n = ap (span w z) k in
    let l : length (take (3 + w) o) ≡ 3 + w = length-take-le (3 + w) o (omega arith) in
    let room : span w z (length ss) ≤ length (drop (3 + w) o) = simp length-drop (omega arith) in
    let e : length (echoed w z ss (drop (3 + w) o)) ≡ span w z (length ss) = echoed-length w z ss (drop (3 + w) o) room in
    simp length-append (omega arith)

-- the header, then the objects from its end
pub echo-pieces : (d d₁ d₂ o ss : List ℕ) (w z : ℕ) → 3 + w ≤ length o → d₁ ≡ splice d 4 (take (3 + w) o)
    → d₂ ≡ splice d₁ (4 + (3 + w)) (echoed w z ss (take (length o - (3 + w)) (drop (3 + w) o))) → d₂ ≡ splice d 4 (echo_of w z ss o)
echo-pieces d d₁ d₂ o ss w z h e f =
    let l : length (take (3 + w) o) ≡ 3 + w = length-take-le (3 + w) o h in
    let g : 4 + (3 + w) ≡ 4 + length (take (3 + w) o) = omega arith in
    f
    ∙ ap (λ (x : List ℕ). splice x (4 + (3 + w)) (echoed w z ss (take (length o - (3 + w)) (drop (3 + w) o)))) e
    ∙ ap (λ (x : List ℕ). splice (splice d 4 (take (3 + w) o)) (4 + (3 + w)) (echoed w z ss x)) (to_end o (3 + w))
    ∙ ap (λ (k : ℕ). splice (splice d 4 (take (3 + w) o)) k (echoed w z ss (drop (3 + w) o))) g
    ∙ sym (splice-append d 4 (take (3 + w) o) (echoed w z ss (drop (3 + w) o)))
