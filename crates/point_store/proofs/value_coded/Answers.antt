-- `point_store::value_coded` meets its contract. Assumes nothing.
use mathlib.Core.Path.{◌≡◌, sym, ap, ◌∙◌}
use lib.Dec.{lit<}
use lib.IntN.{ℤ}
use mir.Syntax.{w16, w32}
use mir.Val.{SFits, to_z}
use borrow.Author.Rules.{rules}
use Rattle.points.specs.Scaling.{clamp_value}
use Rattle.points.specs.declared.Value.TheVariants as Vs
use Rattle.point_store.proofs.PointLaws.{not-clamped}
use Rattle.point_store.proofs.value_coded.Goals as goal

pub returns-in-Int16 : goal.returns-in-Int16
returns-in-Int16 c =
    let s : SFits w16 c.in-Int16.z = search rules in
    let e : to_z w32 c.signed_bits-in-Int16.result ≡ c.in-Int16.z = search rules in
    (ap (λ (z : ℤ). Vs.Int16 (clamp_value z).value) e ∙ ap Vs.Int16 (not-clamped _ s) ∙ sym c.in-Int16.is, lit< tt)
