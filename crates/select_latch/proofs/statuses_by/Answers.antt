-- `select_latch::statuses_by` meets its contract: those of an OPERATE are the same for all.
-- Assumes nothing.
use mathlib.Core.Path.{◌≡◌, refl, sym, ap, ◌∙◌}
use borrow.Author.Rules.{rules}
use Prim.Native.Nat.{ℕ}
use lib.ListN.{length, replicate}
use Rattle.laws.proofs.Loops.{length-mapped}
use Rattle.laws.proofs.Filling.{take-replicate}
use Rattle.control.proofs.ObjectLaws.{length-list_of}
use Rattle.select_latch.proofs.Laws.{operate-is}
use Rattle.select_latch.proofs.statuses_by.Goals as goal

pub returns-then-eq : goal.returns-then-eq
returns-then-eq c =
    let a = c.args in
    let h : length a.cs.items ≡ 8 = search (length-mapped, rules) in
    rw (sym (operate-is a.f) ∙ sym c.if-eq.ensures)
    (take-replicate a.cs.count 8 a.s c.requires ∙ ap (λ (k : ℕ). replicate k a.s) (sym (length-list_of a.cs h c.requires)), refl)
