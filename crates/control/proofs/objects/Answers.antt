-- `control::objects` meets its contract: the bytes behind the header are its objects.
-- Assumes nothing.
use Prim.Native.Nat.{◌+◌}
use native.Mathlib.Omega.{arith}
use lib.ListN.{length-take, length-drop}
use Rattle.laws.proofs.Filling.{to_end}
use Rattle.control.proofs.FormLaws.{formed-fits}
use Rattle.control.proofs.objects.Goals as goal

pub overflow_add-x : goal.overflow_add-x
overflow_add-x c =
    let fit = formed-fits c.args.o.now c.args.x c.requires in
    omega arith

pub slice_bounds-taken-count : goal.slice_bounds-taken-count
slice_bounds-taken-count c =
    let fit = formed-fits c.args.o.now c.args.x c.requires in
    omega arith

pub slice_bounds-taken-start : goal.slice_bounds-taken-start
slice_bounds-taken-start c =
    let fit = formed-fits c.args.o.now c.args.x c.requires in
    omega arith

pub taken-requires : goal.taken-requires
taken-requires c =
    let fit = formed-fits c.args.o.now c.args.x c.requires in
    (simp (length-take, length-drop) (omega arith), fit.narrow, fit.few)

pub returns : goal.returns
returns c =
    let a = c.args in
    rw (← to_end a.o.now (3 + a.x.width)) c.taken.ensures
