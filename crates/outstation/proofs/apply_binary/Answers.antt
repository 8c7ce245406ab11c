-- `outstation::apply_binary` meets its contract. Assumes nothing.
use mathlib.Core.Path.{◌≡◌, refl, ap, ◌∙◌}
use lib.ListN.{get_or}
use Rattle.std.proofs.lemmas.Result.{err_from_is_err_and}
use Rattle.points.specs.declared.BinaryPoint.{BinaryPoint}
use Rattle.points.specs.PointsView.{no_binary}
use Rattle.points.specs.Reading.{read_binary}
use Rattle.point_store.specs.PointWords.{binaries_in}
use Rattle.outstation.specs.ReadingParts.{with_changes}
use Rattle.outstation.proofs.HeadLaws.{binary-taken, binary-refused, no-binary}
use Rattle.outstation.proofs.apply_binary.Goals as goal
use Rattle.outstation.proofs.apply_binary.Goals.{After-load_binary}

-- the point that was read
loaded : (c : After-load_binary) → c.load_binary.result ≡ get_or (binaries_in c.args.binaries.now) c.args.r.point no_binary
loaded c = rw c.in_ok-i.ensures.ok.0 at c.load_binary.ensures

pub returns-in_err-i : goal.returns-in_err-i
returns-in_err-i c =
    let i = c.args in
    let p = err_from_is_err_and c.from_residual.result c.from_residual.ensures.1 in
    let e = c.in_err-i.ensures.err in
    λ h a.
    rw (p.1, p.2, e.0)
    (no-binary (with_changes h i.n i.m) (record { binaries = i.binaries.now; analogs = a; held = i.held.now }) i.r i.state e.1)

pub returns-in_err-t : goal.returns-in_err-t
returns-in_err-t c =
    let i = c.args in
    let p = err_from_is_err_and c.from_residual-in_err-t.result c.from_residual-in_err-t.ensures.1 in
    λ h a.
    rw (p.1, p.2)
    (binary-refused (with_changes h i.n i.m) (record { binaries = i.binaries.now; analogs = a; held = i.held.now }) i.r i.state c.in_ok-i.ensures.ok.1 _
    (c.in_err-t.ensures ∙ ap (λ (x : BinaryPoint). read_binary x i.state i.r.flags) (loaded (goal.at.returns-in_err-t c).After-load_binary))
    _ refl)

pub returns : goal.returns
returns c =
    let i = c.args in
    λ h a.
    binary-taken (with_changes h i.n i.m) (record { binaries = i.binaries.now; analogs = a; held = i.held.now }) i.r i.state c.in_ok-i.ensures.ok.1 _
    (c.in_ok-t.ensures ∙ ap (λ (x : BinaryPoint). read_binary x i.state i.r.flags) (loaded (goal.at.returns c).After-load_binary))
    _ refl _ _ _ (rw c.in_ok-i.ensures.ok.0 at c.store_binary.ensures) (rw c.event_of-e.ensures at (c.taken.ensures h i.n))
