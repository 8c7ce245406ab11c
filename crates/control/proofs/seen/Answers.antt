-- `control::seen` meets its contract.
-- Assumes nothing.
use mathlib.Core.Path.{◌≡◌, refl, ap, ◌∙◌}
use mathlib.Core.Bool.{Bool, ◌||◌, or-false, or_comm}
use mathlib.Core.List.{List, [], ◌∷◌}
use Prim.Native.Nat.{ℕ, zero, suc, ◌≤◌}
use native.Mathlib.Omega.{arith}
use borrow.Author.Rules.{rules}
use borrow.Author.Tests.{tests}
use lib.Dec.{eqb}
use lib.ListN.{length, get_or, take}
use Rattle.std.proofs.Math.Seq.{take-suc}
use Rattle.std.specs.List.{list_any}
use Rattle.std.proofs.lemmas.Iterator.{YieldsList-from_slice}
use Rattle.std.proofs.lemmas.Iterator.Search.{any_from_yields_List}
use Rattle.std.proofs.lemmas.List.Folds.{list_any-append}
use Rattle.laws.specs.Lists.{member}
use Rattle.laws.proofs.Loops.{length-mapped}
use Rattle.control.specs.declared.ControlObject.{ControlObject}
use Rattle.control.specs.Objects.{no_object, earlier_of}
use Rattle.control.proofs.seen.Goals as goal

among : (x : ℕ) (cs : List ControlObject) (n : ℕ) → n ≤ length cs
    → list_any (λ (c : ControlObject). eqb x c.index) (take n cs) ≡ member x (earlier_of cs n)
unfolding earlier_of
among x cs zero h = refl
among x cs (suc n) h =
    ap (list_any (λ (c : ControlObject). eqb x c.index)) (take-suc cs n no_object (omega arith))
    ∙ list_any-append (λ (c : ControlObject). eqb x c.index) (take n cs) (get_or cs n no_object ∷ [])
    ∙ ap (λ (t : Bool). list_any (λ (c : ControlObject). eqb x c.index) (take n cs) || t) (or-false _)
    ∙ or_comm (list_any (λ (c : ControlObject). eqb x c.index) (take n cs)) (eqb x (get_or cs n no_object).index)
    ∙ ap (λ (t : Bool). eqb x (get_or cs n no_object).index || t) (among x cs n (omega arith))

pub returns : goal.returns
returns c =
    let a = c.args in
    let l : length a.cs.items ≡ 8 = search (length-mapped, rules) in
    any_from_yields_List (λ (o : ControlObject). eqb a.index o.index) _ _ _ c.any.ensures.ran
    (YieldsList-from_slice (take a.n a.cs.items) (grind (arith, c.iter.ensures.rest))) (λ x b q k. search (rules, tests))
    ∙ among a.index a.cs.items a.n (omega arith)
