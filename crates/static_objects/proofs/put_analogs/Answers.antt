use Rattle.std.proofs.Common.{◌≡◌, arith, refl, ap, sym, ◌∙◌}
use Rattle.octets.specs.Bytes.{splice}
use Rattle.static_objects.specs.Static.{static_variation, point_bytes, static_heading, range_bytes}
use Rattle.read_headers.specs.declared.PointKind.TheVariants as K
use Rattle.static_objects.proofs.StaticLaws.{heading-length, points-over, points-next, points-all, none_first, kind-some}
use Rattle.static_objects.proofs.RunWriting.{running-none, running-end}
use Rattle.static_objects.proofs.AnalogRuns.{run_variation, heading-is, run-fits, run-joined-fits, run-joined, run-begun-fits, run-begun}
use Rattle.static_objects.specs.Alone.{analogs_alone}
use Rattle.static_objects.proofs.put_analogs.Goals as goal
use Rattle.static_objects.proofs.put_analogs.Goals.{in-Some, in_default, in_default-via-in-Some+else-r-k, in_default-via-in_default}

pub loop-i-init : goal.loop-i-init
unfolding range_bytes
loop-i-init c =
    let a = c.args in
    let i = analogs_alone a.count a.ws.now in
    let whole = points-all i K.Analog a.from a.n in
    rw whole
    (record {
      running = running-none (static_heading K.Analog) 7 (heading-length K.Analog) _ _ _ (none_first i K.Analog a.from a.n) c.requires.0;
      before = tt;
    })

pub put_point-to-requires : goal.put_point-to-requires
put_point-to-requires c =
    let s = c.analog_shown-s in
    run-joined-fits _ c.loop-i.invariant _ _ (points-next (analogs_alone c.args.count c.args.ws.now) K.Analog c.loop-i.i _ c.loop-i-test.true)
    _ (c.variation-k.ensures ∙ ap static_variation s.ensures) _ (ap point_bytes s.ensures) c.in-Some.r c.in-Some.is (sym c.if-r-k.true)

pub end_run-requires : goal.end_run-requires
end_run-requires c =
    let fits = run-fits c.loop-i.run (omega (arith, c.requires.1, c.loop-i-test.true)) c.loop-i.invariant in
    elim c.in_default.branch [
      | in_default-via-in-Some+else-r-k w ↦ rw (w.run-is ∙ sym w.in-Some.is) fits
      | in_default-via-in_default w ↦ rw w.run-is fits
    ]

pub put_point-to-requires-in_default : goal.put_point-to-requires-in_default
put_point-to-requires-in_default c =
    let s = c.analog_shown-s in
    let new : c.variation-k.result ≡ run_variation c.loop-i.run → ⊥ =
    elim c.in_default.branch [
      | in_default-via-in-Some+else-r-k w ↦ λ q. w.if-r-k.false (sym (q ∙ ap run_variation w.in-Some.is))
      | in_default-via-in_default w ↦ λ q. kind-some s.result (sym c.variation-k.ensures ∙ q ∙ ap run_variation w.in_default.is)
    ] in
    let fits = run-begun-fits _ c.loop-i.invariant _ _ (points-next (analogs_alone c.args.count c.args.ws.now) K.Analog c.loop-i.i _ c.loop-i-test.true)
    _ (c.variation-k.ensures ∙ ap static_variation s.ensures) _ (ap point_bytes s.ensures) new in
    omega (arith, fits, c.end_run.auto.out)

pub loop-i-preserved : goal.loop-i-preserved
loop-i-preserved c =
    let at = c.loop-i in
    let s = c.analog_shown-s in
    let next = points-next (analogs_alone c.args.count c.args.ws.now) K.Analog at.i _ c.loop-i-test.true in
    let kind = c.variation-k.ensures ∙ ap static_variation s.ensures in
    let bytes = ap point_bytes s.ensures in
    elim c.match-run.branch [
      | in-Some w ↦
          rw (w.out-is, w.to-is, w.run-is)
          (run-joined _ at.invariant _ _ next _ kind _ bytes w.in-Some.r w.in-Some.is (sym w.if-r-k.true) _ _ w.put_point-to.ensures.0 w.put_point-to.ensures.1)
      | in_default w ↦
          let some = λ (z : c.variation-k.result ≡ 0). kind-some s.result (sym c.variation-k.ensures ∙ z) in
          let new : c.variation-k.result ≡ run_variation at.run → ⊥ =
          elim w.in_default.branch [
            | in_default-via-in-Some+else-r-k v ↦ λ q. v.if-r-k.false (sym (q ∙ ap run_variation v.in-Some.is))
            | in_default-via-in_default v ↦ λ q. some (q ∙ ap run_variation v.in_default.is)
          ] in
          let is : w.in_default.run ≡ at.run =
          elim w.in_default.branch [
            | in_default-via-in-Some+else-r-k v ↦ v.run-is ∙ sym v.in-Some.is
            | in_default-via-in_default v ↦ v.run-is
          ] in
          rw (w.out-is, w.to-is, w.run-is)
          (run-begun _ at.invariant _ _ next _ kind _ bytes new some refl _ _ _ (rw is at w.end_run.ensures) w.put_point-to-in_default.ensures.0 w.put_point-to-in_default.ensures.1)
    ]

pub end_run-requires-2 : goal.end_run-requires-2
end_run-requires-2 c = run-fits c.loop-i.run (omega (arith, c.requires.1, c.loop-i.auto)) c.loop-i.invariant

pub returns : goal.returns
unfolding range_bytes
returns c =
    let a = c.args in
    let i = analogs_alone a.count a.ws.now in
    let g = rw (points-all i K.Analog a.from a.n) at c.loop-i.invariant in
    running-end (static_heading K.Analog) 7 (heading-length K.Analog) _ _ _ (none_first i K.Analog a.from a.n) _ _ _ _ _ _ _ g.running
    (points-over i K.Analog _ _ c.loop-i-test.false) _ (c.end_run-2.ensures ∙ ap (splice c.loop-i.out _) (heading-is c.loop-i.run c.loop-i.i g.before))
