-- `control::all_zero` meets its contract.
-- Assumes nothing.
use mathlib.Core.Path.{◌≡◌, refl, ap, ◌∙◌}
use mathlib.Core.Bool.{Bool, ◌&&◌}
use mathlib.Core.List.{List, [], ◌∷◌}
use Prim.Native.Nat.{ℕ}
use borrow.Author.Rules.{rules}
use borrow.Author.Tests.{tests}
use lib.Dec.{eqb}
use Rattle.std.specs.List.{list_all}
use Rattle.std.proofs.lemmas.Iterator.{YieldsList-from_slice, YieldsList-from_take}
use Rattle.std.proofs.lemmas.Iterator.Search.{all_from_yields_List}
use Rattle.control.specs.Status.{all_zero}
use Rattle.control.proofs.all_zero.Goals as goal

each : (ss : List ℕ) → list_all (λ s. eqb s 0) ss ≡ all_zero ss
unfolding all_zero
each [] = refl
each (s ∷ ss) = ap (λ (t : Bool). eqb s 0 && t) (each ss)

pub returns : goal.returns
returns c =
    all_from_yields_List (λ s. eqb s 0) _ _ _ c.all.ensures.ran
    (YieldsList-from_take c.args.count (YieldsList-from_slice c.args.ss (cc (c.take.ensures.source, c.iter.ensures.rest))) c.take.ensures.count) (λ x b q k. search (rules, tests))
    ∙ each _
