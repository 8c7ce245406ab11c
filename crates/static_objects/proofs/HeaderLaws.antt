-- Laws of the bytes of a READ's headers.
-- Assumes nothing.
use mathlib.Core.Path.{◌≡◌, refl, sym, ap, ◌∙◌}
use Rattle.read_headers.specs.declared.PointKind.TheVariants as K
use mathlib.Core.List.{List, [], ◌∷◌, ◌++◌}
use Prim.Native.Nat.{ℕ, ◌+◌}
use lib.ListN.{length, length-append}
use Rattle.octets.specs.Bytes.{splice}
use Rattle.octets.proofs.Splice.{splice-append}
use Rattle.points.specs.PointsView.{PointsView}
use Rattle.read_headers.specs.declared.Header.{Header}
use Rattle.static_objects.specs.Static.{range_bytes, header_bytes, static_bytes}

module _ (i : PointsView) where
  pub static-nil : static_bytes i [] ≡ []
  unfolding static_bytes
  static-nil = refl

  pub static-cons : (h : Header) (hs : List Header) → static_bytes i (h ∷ hs) ≡ header_bytes i h ++ static_bytes i hs
  unfolding static_bytes
  static-cons h hs = refl

  -- ---- a header: one range after the other

  pub header-put : (d d1 d2 : List ℕ) (at to : ℕ) (h : Header) → to ≡ at + length (range_bytes i K.Binary h.binary h.binaries)
      → d1 ≡ splice d at (range_bytes i K.Binary h.binary h.binaries) → d2 ≡ splice d1 to (range_bytes i K.Analog h.analog h.analogs)
      → d2 ≡ splice d at (header_bytes i h)
  header-put d d1 d2 at to h e e1 e2 =
      let b : List ℕ = range_bytes i K.Binary h.binary h.binaries in
      let t : List ℕ = range_bytes i K.Analog h.analog h.analogs in
      e2 ∙ ap (λ (x : List ℕ). splice x to t) e1 ∙ ap (λ (q : ℕ). splice (splice d at b) q t) e ∙ sym (splice-append d at b t)

  pub header-length : (h : Header) → length (header_bytes i h) ≡ length (range_bytes i K.Binary h.binary h.binaries) + length (range_bytes i K.Analog h.analog h.analogs)
  header-length h = length-append (range_bytes i K.Binary h.binary h.binaries) (range_bytes i K.Analog h.analog h.analogs)
