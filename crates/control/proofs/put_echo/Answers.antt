-- `control::put_echo` meets its contract: two pieces next to each other.
-- Assumes nothing.
use mathlib.Core.Path.{◌≡◌, sym, ap, ◌∙◌}
use Prim.Native.Nat.{ℕ}
use native.Mathlib.Omega.{arith}
use borrow.Author.Rules.{rules}
use lib.ListN.{length, take, length-take, length-drop}
use lib.Seq.{length-take-le}
use Rattle.octets.specs.Bytes.{splice}
use Rattle.control.specs.Objects.{value_size, span}
use Rattle.control.specs.Status.{echo_of}
use Rattle.control.proofs.FormLaws.{formed-fits, echo-length, echo-pieces}
use Rattle.control.proofs.put_echo.Goals as goal

pub overflow_add-h : goal.overflow_add-h
overflow_add-h c =
    let a = c.args in
    let fit = formed-fits a.o.now a.x c.requires.1 in
    omega arith

pub slice_bounds-copy-end : goal.slice_bounds-copy-end
slice_bounds-copy-end c =
    let a = c.args in
    let fit = formed-fits a.o.now a.x c.requires.1 in
    simp length-take (omega arith)

pub copy-requires : goal.copy-requires
copy-requires c =
    let a = c.args in
    let fit = formed-fits a.o.now a.x c.requires.1 in
    simp length-take (omega arith)

pub overflow_add-h-2 : goal.overflow_add-h-2
overflow_add-h-2 c =
    let a = c.args in
    let fit = formed-fits a.o.now a.x c.requires.1 in
    omega arith

pub slice_bounds-put_objects-count : goal.slice_bounds-put_objects-count
slice_bounds-put_objects-count c =
    let a = c.args in
    let fit = formed-fits a.o.now a.x c.requires.1 in
    omega arith

pub slice_bounds-put_objects-start : goal.slice_bounds-put_objects-start
slice_bounds-put_objects-start c =
    let a = c.args in
    let fit = formed-fits a.o.now a.x c.requires.1 in
    omega arith

pub put_objects-requires : goal.put_objects-requires
put_objects-requires c =
    let a = c.args in
    let fit = formed-fits a.o.now a.x c.requires.1 in
    let z = ap (λ (k : ℕ). span a.x.width k a.x.count) c.value_size.ensures.0 in
    let m : length a.ss ≡ 8 = search rules in
    (omega (arith, z), simp (length-take, length-drop) (omega (arith, z)), omega (arith, m, fit.few))

pub returns : goal.returns
returns c =
    let a = c.args in
    let vs = c.value_size in
    let fit = formed-fits a.o.now a.x c.requires.1 in
    let m : length a.ss ≡ 8 = search rules in
    let k : length (take a.x.count a.ss) ≡ a.x.count = length-take-le a.x.count a.ss (omega (arith, m, fit.few)) in (
      echo-pieces a.out.now _ _ a.o.now (take a.x.count a.ss) a.x.width vs.result (omega arith) c.copy.ensures c.put_objects.ensures
          ∙ ap (λ (z : ℕ). splice a.out.now 4 (echo_of a.x.width z (take a.x.count a.ss) a.o.now)) vs.ensures.0,
      sym (echo-length a.x.width (value_size a.x.kind) a.x.count (take a.x.count a.ss) a.o.now k fit.size),
    )
