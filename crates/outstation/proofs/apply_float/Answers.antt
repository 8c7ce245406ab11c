-- `outstation::apply_float` meets its contract. Assumes nothing.
use mathlib.Core.Path.{◌≡◌, ap, ◌∙◌}
use lib.ListN.{get_or}
use Rattle.std.proofs.lemmas.Result.{err_from_is_err_and}
use Rattle.points.specs.declared.AnalogPoint.{AnalogPoint}
use Rattle.points.specs.PointsView.{no_analog}
use Rattle.points.specs.Reading.{read_float}
use Rattle.point_store.specs.PointWords.{analogs_in}
use Rattle.outstation.specs.Lent.{Words}
use Rattle.outstation.specs.ReadingParts.{with_changes}
use Rattle.outstation.proofs.HeadLaws.{analog-effect, analog-refused, no-analog}
use Rattle.outstation.proofs.apply_float.Goals as goal
use Rattle.outstation.proofs.apply_float.Goals.{After-load_analog}

-- the point that was read
loaded : (c : After-load_analog) → c.load_analog.result ≡ get_or (analogs_in c.args.analogs.now) c.args.r.point no_analog
loaded c = rw c.in_ok-i.ensures.ok.0 at c.load_analog.ensures

pub returns-in_err-i : goal.returns-in_err-i
returns-in_err-i c =
    let i = c.args in
    let p = err_from_is_err_and c.from_residual.result c.from_residual.ensures.1 in
    let e = c.in_err-i.ensures.err in
    λ h b.
    rw (p.1, p.2, e.0)
    (no-analog (with_changes h i.n i.m) (record { binaries = b; analogs = i.analogs.now; held = i.held.now }) i.r (λ q. read_float q i.x i.r.flags) e.1)

pub returns-in_err-t : goal.returns-in_err-t
returns-in_err-t c =
    let i = c.args in
    let p = err_from_is_err_and c.from_residual-in_err-t.result c.from_residual-in_err-t.ensures.1 in
    λ h b.
    let w : Words = record { binaries = b; analogs = i.analogs.now; held = i.held.now } in
    rw (p.1, p.2)
    (analog-effect (with_changes h i.n i.m) w i.r (λ q. read_float q i.x i.r.flags) c.in_ok-i.ensures.ok.1 _
    (c.in_err-t.ensures ∙ ap (λ (q : AnalogPoint). read_float q i.x i.r.flags) (loaded (goal.at.returns-in_err-t c).After-load_analog)) _ _ _
    (analog-refused (with_changes h i.n i.m) w i.r _))

pub returns : goal.returns
returns c =
    let i = c.args in
    λ h b.
    analog-effect (with_changes h i.n i.m) (record { binaries = b; analogs = i.analogs.now; held = i.held.now }) i.r (λ q. read_float q i.x i.r.flags)
    c.in_ok-i.ensures.ok.1 _
    (c.in_ok-t.ensures ∙ ap (λ (q : AnalogPoint). read_float q i.x i.r.flags) (loaded (goal.at.returns c).After-load_analog)) _ _ _ (c.take_analog.ensures h b)
