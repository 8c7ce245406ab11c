-- Laws of a setup: what its limits tell, and the outstation that it gives.
-- Assumes nothing.
use mathlib.Core.Path.{◌≡◌, refl}
use mathlib.Core.Bool.{Bool, true, false, not, ◌&&◌}
use mathlib.Core.List.{map}
use Prim.Native.Nat.{ℕ, ◌≤◌}
use native.Mathlib.Omega.{arith}
use borrow.Author.Tests.{le-leb, leb-true, ne_eqb, eq-eqb}
use lib.Dec.{leb, eqb}
use lib.ListN.{take}
use Rattle.laws.specs.Limits.{points_max}
use Rattle.laws.specs.Lists.{all}
use Rattle.points.specs.Setup.{class_ok, analog_ok}
use Rattle.analog_outputs.specs.Output.{output_ok}
use Rattle.outstation.specs.Setup.{Setup, binary_classes, analog_setups, analog_outputs, setup_ok}

-- the limits that are tests of numbers
pub record Bounds (u : Setup) : Type 0 where
  pub binaries : u.binary_count ≤ points_max
  pub analogs : u.analog_count ≤ points_max
  pub outputs : u.outputs ≤ 16
  pub analog_outputs : u.analog_output_count ≤ 16
  pub own : u.own ≤ 65519
  pub master : u.master ≤ 65519
  pub differ : u.own ≡ u.master → ⊥
  pub arm : u.arm_time ≤ 64000
  pub some : 1 ≤ u.confirm_time
  pub confirm : u.confirm_time ≤ 60000

first : (a b : Bool) → a && b ≡ true → (a ≡ true) × (b ≡ true)
first true b h = (refl, h)
first false b h = let z : ◌≡◌ {A = ℕ} 0 1 = cc in absurd (omega arith)

unlike : (a b : ℕ) → not (eqb a b) ≡ true → a ≡ b → ⊥
unlike a b h e =
    let z : ◌≡◌ {A = ℕ} 0 1 = cc (eq-eqb a b e) in
    omega arith

-- an accepted setup keeps them
pub bounds : (u : Setup) → setup_ok u ≡ true → Bounds u
unfolding setup_ok
bounds u h =
    let a = first (leb u.binary_count points_max) _ h in
    let b = first (leb u.analog_count points_max) _ a.1 in
    let d = first (leb u.outputs 16) _ b.1 in
    let l = first (leb u.analog_output_count 16) _ d.1 in
    let e = first (leb u.own 65519) _ l.1 in
    let f = first (leb u.master 65519) _ e.1 in
    let g = first (not (eqb u.own u.master)) _ f.1 in
    let i = first (leb u.arm_time 64000) _ g.1 in
    let j = first (leb 1 u.confirm_time) _ i.1 in
    let k = first (leb u.confirm_time 60000) _ j.1 in
    record {
      binaries = leb-true _ _ a.0;
      analogs = leb-true _ _ b.0;
      outputs = leb-true _ _ d.0;
      analog_outputs = leb-true _ _ l.0;
      own = leb-true _ _ e.0;
      master = leb-true _ _ f.0;
      differ = unlike _ _ g.0;
      arm = leb-true _ _ i.0;
      some = leb-true _ _ j.0;
      confirm = leb-true _ _ k.0;
    }

-- a setup that keeps them is as good as its inputs
module _ (u : Setup) (b : Bounds u) where
  kept : setup_ok u ≡ (all (map class_ok (binary_classes u)) && (all (map analog_ok (analog_setups u)) && (all (map output_ok (analog_outputs u)) && true)))
  unfolding setup_ok
  kept =
      rw (
        le-leb _ _ b.binaries,
        le-leb _ _ b.analogs,
        le-leb _ _ b.outputs,
        le-leb _ _ b.analog_outputs,
        le-leb _ _ b.own,
        le-leb _ _ b.master,
        ne_eqb _ _ b.differ,
        le-leb _ _ b.arm,
        le-leb _ _ b.some,
        le-leb _ _ b.confirm,
      )

  pub good-setup : all (map class_ok (take u.binary_count u.classes)) ≡ true → all (map analog_ok (take u.analog_count u.analogs)) ≡ true
      → all (map output_ok (take u.analog_output_count u.analog_outputs)) ≡ true → true ≡ setup_ok u
  unfolding binary_classes analog_setups analog_outputs
  good-setup h e o = rw (kept, h, e, o)
