-- `static_objects::header_size` meets its contract.
-- Assumes nothing.
use mathlib.Core.Path.{ap, ◌∙◌}
use native.Mathlib.Omega.{arith}
use lib.ListN.{length}
use Rattle.static_objects.proofs.HeaderLaws.{header-length}
use Rattle.point_store.specs.PointWords.{points_view_in}
use Rattle.static_objects.proofs.AloneLaws.{analogs-alone}
use borrow.Author.Rules.{rules}
use Rattle.static_objects.proofs.header_size.Goals as goal

pub returns : goal.returns
returns c =
    let a = c.args in (
      λ b.
          let i = points_view_in a.n b a.analogs.now in
          let size = c.analogs_size-analog_bytes.ensures.0 ∙ ap length (analogs-alone a.n b a.analogs.now a.h.analog a.h.analogs) in
          omega (arith, header-length i a.h, size, c.binaries_size-binary_bytes.ensures.0 i a.h.binary),
      search rules,
    )
