-- `event_store::carried_at` meets its contract. Assumes nothing.
use Rattle.event_store.proofs.EventLaws.{mark, carried-at}
use Rattle.words.specs.Numbers.{holds}
use Prim.Native.Nat.{ℕ, ◌/◌}
use mathlib.Core.Path.{ap, ◌∙◌}
use Rattle.event_store.proofs.carried_at.Goals as goal

pub returns : goal.returns
returns c =
    c.is_carried.ensures ∙ ap (λ (x : ℕ). holds (x / mark)) c.second.ensures ∙ carried-at c.args.held.now _ c.requires
