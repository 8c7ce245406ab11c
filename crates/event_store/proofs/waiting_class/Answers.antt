-- `event_store::waiting_class` meets its contract. Assumes nothing.
use Rattle.event_store.proofs.EventLaws.{mark, waiting_none, waiting-class}
use Rattle.std.proofs.Common.{Some}
use Rattle.words.specs.Numbers.{holds}
use Prim.Native.Nat.{ℕ, ◌/◌, ◌%◌, ◌^◌}
use mathlib.Core.Path.{sym, ap, ◌∙◌}
use Rattle.event_store.proofs.waiting_class.Goals as goal

pub returns-then-is_carried : goal.returns-then-is_carried
returns-then-is_carried c =
    waiting_none c.args.held.now _ c.requires (sym (c.is_carried.ensures ∙ ap (λ (x : ℕ). holds (x / mark)) c.second-b.ensures) ∙ c.if-is_carried.true)

pub returns-else-is_carried : goal.returns-else-is_carried
returns-else-is_carried c =
    ap Some (c.class_of.ensures ∙ ap (λ (x : ℕ). x / 2 ^ 40 % 256) c.second-b.ensures)
    ∙ waiting-class c.args.held.now _ c.requires (sym (c.is_carried.ensures ∙ ap (λ (x : ℕ). holds (x / mark)) c.second-b.ensures) ∙ c.if-is_carried.false)
