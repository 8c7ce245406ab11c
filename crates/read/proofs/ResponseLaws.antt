-- Laws of a READ's response.
-- Assumes nothing.
use mathlib.Core.Path.{◌≡◌, refl, sym, ap, ◌∙◌}
use mathlib.Core.Bool.{Bool, true, false, cond}
use mathlib.Core.List.{List, ◌++◌}
use Prim.Native.Nat.{ℕ, ◌+◌, ◌-◌, ◌≤◌}
use native.Mathlib.Omega.{arith}
use borrow.Author.Tests.{ltb-false}
use lib.Dec.{ltb}
use lib.ListN.{length, length-append}
use Rattle.laws.specs.Limits.{fragment_max}
use Rattle.octets.specs.Bytes.{splice}
use Rattle.octets.proofs.Splice.{splice-nil, splice-append}
use Rattle.points.specs.PointsView.{PointsView}
use Rattle.events.specs.BufferView.{BufferView, cleared, mark_carried}
use Rattle.events.specs.declared.Classes.{Classes}
use Rattle.application.specs.declared.Fault.{Fault}
use Rattle.application.specs.declared.Fault.TheVariants.{BadParameter}
use Rattle.read_headers.specs.declared.Header.{Header}
use Rattle.read_headers.specs.Parse.{Parsed, headers, fault, parse}
use Rattle.event_objects.specs.Events.{carried_bytes}
use Rattle.event_objects.proofs.Budget.{within}
use Rattle.static_objects.specs.Static.{static_bytes, sized, asked_of}
use Rattle.read.specs.Response.{classes_of, response_objects_max, room_beside, buffer_after, response_objects}

-- faultless headers have a static part that fits
pub fitting : (i : PointsView) (x : Parsed) (hs : List Header) → headers hs ≡ sized i x → length (static_bytes i hs) + 4 ≤ fragment_max
fitting i (fault f) hs e = absurd (let z : ◌≡◌ {A = ℕ} 0 1 = cc in omega arith)
fitting i (headers gs) hs e = go (ltb fragment_max (length (static_bytes i gs) + 4)) refl e
  where
    go : (b : Bool) → ltb fragment_max (length (static_bytes i gs) + 4) ≡ b → headers hs ≡ cond b (fault BadParameter) (headers gs) → length (static_bytes i hs) + 4 ≤ fragment_max
    go true t e = absurd (let z : ◌≡◌ {A = ℕ} 0 1 = cc in omega arith)
    go false t e =
        let s : hs ≡ gs = cc in
        rw s (ltb-false fragment_max (length (static_bytes i gs) + 4) t)

-- the events selected fit beside it
pub beside : (m : Classes) (n : ℕ) (q k : BufferView) → n + 4 ≤ fragment_max → k ≡ mark_carried m (response_objects_max - n) q → 4 + length (carried_bytes k.held) + n ≤ fragment_max
beside m n q k h e =
    let l : length (carried_bytes k.held) ≡ length (carried_bytes (mark_carried m (response_objects_max - n) q).held) = ap (λ (x : BufferView). length (carried_bytes x.held)) e in
    omega (arith, l, within m (response_objects_max - n) q.held)

-- a response has at most 2,048 bytes
pub response-fits : (i : PointsView) (s : List ℕ) (q : BufferView) → 4 + length (response_objects i (asked_of i s) q) ≤ fragment_max
response-fits i s q = go (asked_of i s) refl
  where
    go : (x : Parsed) → x ≡ asked_of i s → 4 + length (response_objects i x q) ≤ fragment_max
    go (fault f) e = omega arith
    go (headers hs) e =
        let f : length (static_bytes i hs) + 4 ≤ fragment_max = fitting i (parse (length i.binaries) (length i.analogs) s) hs e in
        let k : BufferView = buffer_after i (headers hs) q in
        omega (arith, length-append (carried_bytes k.held) (static_bytes i hs), beside (classes_of hs) (length (static_bytes i hs)) q k f refl)

pub two-put : (d d1 d2 x y : List ℕ) (to : ℕ) → to ≡ 4 + length x → d1 ≡ splice d 4 x → d2 ≡ splice d1 to y → d2 ≡ splice d 4 (x ++ y)
two-put d d1 d2 x y to h e1 e2 =
    e2 ∙ ap (λ (z : List ℕ). splice z to y) e1 ∙ ap (λ (n : ℕ). splice (splice d 4 x) n y) h ∙ sym (splice-append d 4 x y)

-- a response, by what the READ is
pub answered : (i : PointsView) (x : Parsed) (q k : BufferView) (d d2 : List ℕ) (size : ℕ) (hs : List Header) → headers hs ≡ x → k ≡ mark_carried (classes_of hs) (room_beside i hs) q
    → size ≡ 4 + length (carried_bytes k.held ++ static_bytes i hs) → d2 ≡ splice d 4 (carried_bytes k.held ++ static_bytes i hs)
    → (k ≡ buffer_after i x q) × (size ≡ 4 + length (response_objects i x q)) × (d2 ≡ splice d 4 (response_objects i x q))
answered i x q k d d2 size hs e ek es ed = (
  ek ∙ ap (λ (y : Parsed). buffer_after i y q) e,
  es ∙ ap (λ (y : BufferView). 4 + length (carried_bytes y.held ++ static_bytes i hs)) ek ∙ ap (λ (y : Parsed). 4 + length (response_objects i y q)) e,
  ed ∙ ap (λ (y : BufferView). splice d 4 (carried_bytes y.held ++ static_bytes i hs)) ek ∙ ap (λ (y : Parsed). splice d 4 (response_objects i y q)) e,
)

pub refused : (i : PointsView) (x : Parsed) (q k : BufferView) (d : List ℕ) (f : Fault) → fault f ≡ x → k ≡ cleared q
    → (k ≡ buffer_after i x q) × (4 ≡ 4 + length (response_objects i x q)) × (d ≡ splice d 4 (response_objects i x q))
refused i x q k d f e ek = (
  ek ∙ ap (λ (y : Parsed). buffer_after i y q) e,
  ap (λ (y : Parsed). 4 + length (response_objects i y q)) e,
  sym (splice-nil d 4) ∙ ap (λ (y : Parsed). splice d 4 (response_objects i y q)) e,
)

pub chosen : (b : BufferView) {m n : Classes} {i j : ℕ} → m ≡ n → i ≡ j → mark_carried m (response_objects_max - i) b ≡ mark_carried n (response_objects_max - j) b
chosen b {m} {n} {i} {j} e f = ap (λ (x : Classes). mark_carried x (response_objects_max - i) b) e ∙ ap (λ (x : ℕ). mark_carried n (response_objects_max - x) b) f
