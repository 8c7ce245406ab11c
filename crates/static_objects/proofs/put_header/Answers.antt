-- `static_objects::put_header` meets its contract.
-- Assumes nothing.
use mathlib.Core.Path.{ap, ◌∙◌}
use mathlib.Core.List.{List}
use Prim.Native.Nat.{ℕ, ◌+◌}
use native.Mathlib.Omega.{arith}
use lib.ListN.{length}
use Rattle.octets.specs.Bytes.{splice}
use Rattle.static_objects.proofs.HeaderLaws.{header-put, header-length}
use Rattle.point_store.specs.PointWords.{points_view_in}
use Rattle.static_objects.proofs.AloneLaws.{binaries-alone, analogs-alone}
use Rattle.static_objects.proofs.put_header.Goals as goal

pub put_binaries-to-requires : goal.put_binaries-to-requires
put_binaries-to-requires c =
    let a = c.args in
    let some = ap length (binaries-alone a.points.installed a.points.binaries.now a.points.analogs.now a.h.binary a.h.binaries) in (
      omega (arith, c.requires, some, header-length (points_view_in a.points.installed a.points.binaries.now a.points.analogs.now) a.h),
      omega arith,
    )

pub put_analogs-requires : goal.put_analogs-requires
put_analogs-requires c =
    let a = c.args in
    let some = ap length (binaries-alone a.points.installed a.points.binaries.now a.points.analogs.now a.h.binary a.h.binaries) in
    let more = ap length (analogs-alone a.points.installed a.points.binaries.now a.points.analogs.now a.h.analog a.h.analogs) in (
      omega (arith, c.requires, some, more, header-length (points_view_in a.points.installed a.points.binaries.now a.points.analogs.now) a.h, c.put_binaries-to.ensures.0, c.put_binaries-to.auto.out),
      omega arith,
    )

pub returns : goal.returns
returns c =
    let p = c.put_analogs in
    let a = c.args in
    let i = points_view_in a.points.installed a.points.binaries.now a.points.analogs.now in
    let some = binaries-alone a.points.installed a.points.binaries.now a.points.analogs.now a.h.binary a.h.binaries in
    let more = analogs-alone a.points.installed a.points.binaries.now a.points.analogs.now a.h.analog a.h.analogs in (
      omega (arith, header-length i a.h, ap length some, ap length more, c.put_binaries-to.ensures.0, p.ensures.0),
      header-put i a.out.now c.put_binaries-to.new.out p.new.out a.at c.put_binaries-to.result a.h
          (c.put_binaries-to.ensures.0 ∙ ap (λ (x : List ℕ). a.at + length x) some) (c.put_binaries-to.ensures.1 ∙ ap (splice a.out.now a.at) some)
          (p.ensures.1 ∙ ap (splice c.put_binaries-to.new.out c.put_binaries-to.result) more),
    )
