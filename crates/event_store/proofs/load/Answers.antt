-- `event_store::load` meets its contract. Assumes nothing.
use Rattle.event_store.proofs.EventLaws.{mark, event-at, carried-at}
use Rattle.event_store.specs.EventWords.{event_of}
use Rattle.words.specs.Numbers.{holds}
use Prim.Native.Nat.{ℕ, ◌/◌, ◌%◌}
use mathlib.Core.Path.{ap, ◌∙◌}
use Rattle.event_store.proofs.load.Goals as goal

pub returns : goal.returns
returns c =
    λ k.
    record {
      event = (c.event_of.ensures ∙ (λ i. event_of (c.first.ensures i) (c.second-b.ensures i % mark)) ∙ event-at c.args.held.now _ c.requires) k;
      carried = (c.is_carried.ensures ∙ ap (λ (x : ℕ). holds (x / mark)) c.second-b.ensures ∙ carried-at c.args.held.now _ c.requires) k;
    }
