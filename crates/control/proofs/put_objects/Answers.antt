use mathlib.Core.Path.{◌≡◌, refl, sym, ap, ◌∙◌}
use mathlib.Core.List.{List}
use Prim.Native.Nat.{ℕ, ◌+◌, ◌-◌}
use native.Mathlib.Omega.{arith}
use lib.ListN.{get_or, take, drop, set, length-set, length-take, length-drop}
use Rattle.octets.specs.Bytes.{splice}
use Rattle.octets.proofs.Splice.{splice-nil, splice-start}
use Rattle.control.specs.Objects.{span}
use Rattle.control.specs.Status.{echoed}
use Rattle.laws.proofs.Filling.{part_none}
use Rattle.control.proofs.ObjectLaws.{span-step}
use Rattle.control.proofs.StatusLaws.{echo-step, echoed-nil}
use Rattle.control.proofs.put_objects.Goals as goal

pub loop-i-init : goal.loop-i-init
loop-i-init c =
    let a = c.args in
    let e : a.n - 0 ≡ a.n = omega arith in
    let f = ap (span a.w a.z) e in
    (splice-start a.out.now a.at (echoed a.w a.z (take a.n a.ss.now) a.b.now), refl, omega arith, omega (arith, f))

pub overflow_add-e : goal.overflow_add-e
overflow_add-e c =
    let a = c.args in
    let st = span-step a.w a.z a.n c.loop-i.i (omega arith) in
    omega (arith, st)

pub overflow_add-e-in-loop-i : goal.overflow_add-e-in-loop-i
overflow_add-e-in-loop-i c =
    let a = c.args in
    let st = span-step a.w a.z a.n c.loop-i.i (omega arith) in
    omega (arith, st)

pub slice_bounds-copy-end : goal.slice_bounds-copy-end
slice_bounds-copy-end c =
    let a = c.args in
    let st = span-step a.w a.z a.n c.loop-i.i (omega arith) in
    omega (arith, st)

pub copy-requires : goal.copy-requires
copy-requires c =
    let a = c.args in
    let st = span-step a.w a.z a.n c.loop-i.i (omega arith) in
    simp (length-take, length-drop) (omega (arith, st))

pub bounds-out-at : goal.bounds-out-at
bounds-out-at c =
    let a = c.args in
    let st = span-step a.w a.z a.n c.loop-i.i (omega arith) in
    omega (arith, st)

pub loop-i-preserved : goal.loop-i-preserved
loop-i-preserved c =
    let a = c.args in
    let st = span-step a.w a.z a.n c.loop-i.i (omega arith) in
    let cp = c.copy in (
      ap
          (λ (d : List ℕ). splice (set d (a.at + (c.loop-i.from + a.w + a.z)) (get_or a.ss.now c.loop-i.i 0)) (a.at + (c.loop-i.from + a.w + a.z + 1))
          (echoed a.w a.z (drop (c.loop-i.i + 1) (take a.n a.ss.now)) (drop (c.loop-i.from + a.w + a.z + 1) a.b.now)))
          cp.ensures
          ∙ echo-step c.loop-i.out a.at c.loop-i.from a.w a.z a.ss.now a.n c.loop-i.i a.b.now (omega arith) (omega arith) (omega (arith, st))
          ∙ c.loop-i.invariant.0,
      simp length-set (omega arith),
      omega arith,
      omega (arith, st),
    )

pub returns : goal.returns
returns c =
    let a = c.args in
    sym
    (ap (λ (x : List ℕ). splice c.loop-i.out (a.at + c.loop-i.from) (echoed a.w a.z x (drop c.loop-i.from a.b.now)))
    (part_none a.ss.now a.n c.loop-i.i (omega arith) (omega arith))
    ∙ ap (λ (x : List ℕ). splice c.loop-i.out (a.at + c.loop-i.from) x) (echoed-nil a.w a.z (drop c.loop-i.from a.b.now))
    ∙ splice-nil c.loop-i.out (a.at + c.loop-i.from))
    ∙ c.loop-i.invariant.0
