-- `read::asked` meets its contract.
-- Assumes nothing.
use mathlib.Core.Path.{◌≡◌, sym, ap, ◌∙◌}
use mathlib.Core.Bool.{Bool, true, false}
use mathlib.Core.List.{[]}
use native.Mathlib.Omega.{arith}
use borrow.Author.Tests.{lt-ltb, le-ltb}
use Rattle.std.specs.Prelude.{Err}
use Rattle.std.proofs.lemmas.Result.{err_from_is_err_and}
use Rattle.point_store.specs.PointWords.{points_view_in}
use Rattle.read_headers.specs.Parse.{headers_max, parse}
use Rattle.read.specs.Response.{request_of}
use Rattle.read.proofs.AskLaws.{gathering, gather-over, gather-faulty, gather-more, gather-all, by_size, fault-first, by-counts}
use Rattle.read.proofs.asked.Goals as goal
use Rattle.read.proofs.asked.Goals.{else-headers-test, then-headers-test+then-is_empty, then-not-is_empty-via-then-not-is_empty, then-not-is_empty-via-else-not-is_empty+then-size-gt-FRAGMENT_MAX}

pub headers-init : goal.headers-init
headers-init c = λ b. gathering _ _ _ _

pub returns-in_err-front : goal.returns-in_err-front
returns-in_err-front c =
    let a = c.args in
    let p = err_from_is_err_and c.from_residual.result c.from_residual.ensures.1 in
    λ b.
    p.1
    ∙ fault-first _ _ (parse _ _ a.s.now)
    (gather-faulty _ _ _ _ _ _ _ _ (c.headers.invariant b) c.headers-test.true (sym c.if-is_empty.ensures) _ (sym c.front_header.ensures.header ∙ c.in_err-front.was ∙ ap Err (sym p.2)))
    ∙ ap (request_of (points_view_in a.n b a.analogs.now)) (by-counts a.n b a.analogs.now a.s.now _ _ c.installed-binary_count.ensures c.installed-analog_count.ensures)

pub overflow_add-size : goal.overflow_add-size
overflow_add-size c = omega (arith, (c.headers.invariant []).small, c.header_size-size.ensures.1)

pub headers-preserved : goal.headers-preserved
headers-preserved c =
    λ b.
    gather-more _ _ _ _ _ _ _ _ (c.headers.invariant b) c.headers-test.true (sym c.if-is_empty.ensures) _ (sym c.front_header.ensures.header ∙ c.in_ok-front.was)
    _ _ c.with_class-classes.ensures (c.header_size-size.ensures.0 b) c.header_size-size.ensures.1

pub overflow_add-size-else-not-is_empty : goal.overflow_add-size-else-not-is_empty
overflow_add-size-else-not-is_empty c = omega (arith, (c.headers.invariant []).small)

pub returns-then-not-is_empty : goal.returns-then-not-is_empty
returns-then-not-is_empty c =
    let a = c.args in
    λ b.
    let counts = by-counts a.n b a.analogs.now a.s.now _ _ c.installed-binary_count.ensures c.installed-analog_count.ensures in
    elim c.then-not-is_empty.branch [
      | then-not-is_empty-via-then-not-is_empty w ↦
          let all : c.headers.counter ≡ headers_max =
          elim c.headers-test.branch [ else-headers-test u ↦ omega arith | then-headers-test+then-is_empty u ↦ absurd (let z : ◌≡◌ {A = Bool} true false = u.if-is_empty.ensures ∙ sym w.if-not-is_empty.ensures in cc) ] in
          fault-first _ _ (parse _ _ a.s.now) (gather-over _ _ _ _ _ _ _ _ (c.headers.invariant b) all (sym w.if-not-is_empty.ensures))
          ∙ ap (request_of (points_view_in a.n b a.analogs.now)) counts
      | then-not-is_empty-via-else-not-is_empty+then-size-gt-FRAGMENT_MAX w ↦
          by_size _ _ (parse _ _ a.s.now) (gather-all _ _ _ _ _ _ _ _ (c.headers.invariant b) (sym w.if-not-is_empty.ensures)) true (lt-ltb _ _ w.if-size-gt-FRAGMENT_MAX.true)
          ∙ ap (request_of (points_view_in a.n b a.analogs.now)) counts
    ]

pub returns : goal.returns
returns c =
    let a = c.args in
    λ b.
    by_size _ _ (parse _ _ a.s.now) (gather-all _ _ _ _ _ _ _ _ (c.headers.invariant b) (sym c.if-not-is_empty.ensures)) false (le-ltb _ _ c.if-size-gt-FRAGMENT_MAX.false)
    ∙ ap (request_of (points_view_in a.n b a.analogs.now)) (by-counts a.n b a.analogs.now a.s.now _ _ c.installed-binary_count.ensures c.installed-analog_count.ensures)
