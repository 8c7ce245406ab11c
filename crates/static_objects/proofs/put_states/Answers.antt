use Rattle.std.proofs.Common.{arith, refl, ◌∙◌, ap, List}
use Rattle.octets.specs.Bytes.{splice}
use Rattle.objects.specs.Runs.{Object, object_bytes}
use Rattle.read_headers.specs.declared.PointKind.TheVariants as K
use Rattle.static_objects.proofs.StaticLaws.{length-binary, shown, all_shown, points-all}
use Rattle.static_objects.specs.Alone.{binaries_alone}
use Rattle.static_objects.proofs.put_states.Goals as goal

pub loop-i-init : goal.loop-i-init
loop-i-init c = record { ahead = refl; long = refl; room = refl }

pub put_point-to-requires : goal.put_point-to-requires
put_point-to-requires c =
    let g = c.loop-i.invariant in
    omega (arith, length-binary _ _ c.binary_shown.ensures, g.room, g.long, c.requires.0, c.loop-i-test.true, c.loop-i.auto.i)

pub loop-i-preserved : goal.loop-i-preserved
loop-i-preserved c =
    let a = c.args in
    shown (binaries_alone a.count a.ws.now) c.loop-i.invariant c.loop-i-test.true _ c.binary_shown.ensures _ _ c.put_point-to.ensures.0 c.put_point-to.ensures.1

pub returns : goal.returns
returns c =
    let a = c.args in
    let i = binaries_alone a.count a.ws.now in
    all_shown i c.loop-i.invariant c.loop-i-test.false
    ∙ ap (λ (os : List Object). splice a.out.now a.at (object_bytes os)) (points-all i K.Binary a.from a.n)
