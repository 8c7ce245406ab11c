use Rattle.std.proofs.Common.{arith, ap, sym, ◌∙◌, length}
use borrow.Author.Tests.{not-true, not-false}
use Rattle.objects.specs.Runs.{size_after}
use Rattle.objects.proofs.WriterLaws.{encoded-size, sum_same, sum-own, sum-end}
use Rattle.static_objects.specs.Static.{static_variation, point_bytes, static_heading, point_objects, range_bytes}
use Rattle.read_headers.specs.declared.PointKind.TheVariants as K
use Rattle.static_objects.specs.declared.ShownPoint.{ShownPoint}
use Rattle.static_objects.proofs.StaticLaws.{heading-length, points-over, points-next, points-all, none_first, kind-some, last-same, last-other}
use Rattle.static_objects.specs.Alone.{analogs_alone}
use Rattle.static_objects.proofs.analogs_size.Goals as goal
use Rattle.static_objects.proofs.analogs_size.Goals.{then-ne, else-ne}

pub loop-i-init : goal.loop-i-init
loop-i-init c = (omega arith, omega arith)

pub loop-i-preserved : goal.loop-i-preserved
loop-i-preserved c =
    let at = c.loop-i in
    let e = c.analog_shown-s.ensures in
    let next = points-next (analogs_alone c.args.count c.args.ws.now) K.Analog at.i _ c.loop-i-test.true in
    let k = c.variation-k.ensures ∙ ap static_variation e in
    let n = c.size-total.ensures.0 ∙ ap (λ (x : ShownPoint). length (point_bytes x)) e in
    elim c.if-ne.branch [
      | then-ne w ↦
          let new = last-other at.last _ (λ z. kind-some c.analog_shown-s.result (sym c.variation-k.ensures ∙ z)) (not-true _ (sym c.ne.ensures ∙ w.if-ne.true)) in
          rw (w.total-is, w.last-is) (sum-own 7 _ _ _ _ at.invariant.0 _ _ next _ k _ n new, omega (arith, at.invariant.1, c.size-total.ensures.1))
      | else-ne w ↦
          let same = last-same at.last _ (not-false _ (sym c.ne.ensures ∙ w.if-ne.false)) in
          rw (w.total-is, w.last-is) (sum_same 7 _ _ _ _ at.invariant.0 _ _ next _ k _ n same, omega (arith, at.invariant.1, c.size-total.ensures.1))
    ]

pub returns : goal.returns
unfolding range_bytes
returns c =
    let a = c.args in
    let i = analogs_alone a.count a.ws.now in (
      sum-end _ _ _ _ _ c.loop-i.invariant.0 (points-over _ _ _ _ c.loop-i-test.false)
          ∙ ap (size_after 7 0) (points-all i K.Analog a.from a.n)
          ∙ sym (encoded-size (static_heading K.Analog) 7 (heading-length K.Analog) (point_objects i K.Analog a.from a.n) (none_first i K.Analog a.from a.n)),
      omega (arith, c.loop-i.invariant.1, c.loop-i.auto),
    )
