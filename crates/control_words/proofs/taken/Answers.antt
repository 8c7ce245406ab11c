use Rattle.std.proofs.Common.{◌≡◌, arith, ap, ◌∙◌, map, length, take, List, ◌++◌}
use Rattle.std.proofs.Math.Option.{some}
use Rattle.laws.specs.Lists.{filter}
use lib.ListN.{length-set}
use borrow.Author.Rules.{rules}
use Rattle.laws.proofs.Loops.{length-mapped}
use Rattle.laws.proofs.Filling.{finished, clamped}
use Rattle.control.specs.Objects.{list_of}
use Rattle.control.specs.declared.ControlObject.{ControlObject}
use Rattle.control_words.proofs.WordsLaws.{filter-yes, filter-no, filter-end, taken_more, taken-count, taken-map}
use Rattle.control_words.proofs.taken.Goals as goal
use Rattle.control_words.proofs.taken.Goals.{in-Some, in_default}

pub loop-c-preserved : goal.loop-c-preserved
loop-c-preserved g c =
    let m = g.W.ObjectWords in
    let at = c.loop-c in
    let below = c.loop-c-test.true in
    elim c.match-of.branch [
      | in-Some w ↦
          let told = rw w.in-Some.is at c.of.ensures in
          rw (w.items-is, w.count-is) (
            taken_more m.object_of at.items at.count w.in-Some.w (some _) _ _ (omega (arith, at.invariant, below)) told.1
                (ap (map some) (filter-yes m.is_kind _ at.c-index _ below told.0))
                ∙ at.invariant.0,
            simp length-set at.invariant.1,
            omega (arith, at.invariant.2),
            omega (arith, below),
            at.invariant.4,
          )
      | in_default w ↦
          let other = rw w.in_default.is at c.of.ensures in
          rw (w.items-is, w.count-is) (
            ap (λ (xs : List ControlObject). take at.count (map m.object_of at.items) ++ map some xs) (filter-no m.is_kind _ at.c-index _ below other) ∙ at.invariant.0,
            at.invariant.1,
            omega (arith, at.invariant.2),
            omega (arith, below),
            at.invariant.4,
          )
    ]

pub returns : goal.returns
unfolding list_of
returns g c =
    let m = g.W.ObjectWords in
    let at = c.loop-c in
    let a = c.args in
    let h : length a.cs.items ≡ 8 = search (length-mapped, rules) in
    let whole =
    taken-map m.object_of at.items at.count
    ∙ finished (take at.count (map m.object_of at.items)) _ _ (ap (map some) (filter-end m.is_kind _ at.c-index c.loop-c-test.false)) at.invariant.0
    ∙ ap (λ (xs : List ControlObject). map some (filter m.is_kind xs)) (clamped a.cs.items 8 a.cs.count c.min-n.result h c.min-n.ensures) in
    (whole, taken-count m.object_of at.items at.count some _ (omega (arith, at.invariant)) whole)
