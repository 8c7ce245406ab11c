-- `event_store::push` meets its contract. Assumes nothing.
use Rattle.event_store.proofs.LentLaws.{lent-pushed, lent-dropped}
use Rattle.event_store.proofs.EventLaws.{new-held}
use Rattle.event_store.specs.EventWords.{buffer_view_in}
use Prim.Native.Nat.{ℕ, ◌+◌}
use mathlib.Core.List.{List}
use mathlib.Core.Path.{ap, ◌∙◌}
use borrow.Author.Tests.{lt-ltb, le-ltb}
use Rattle.laws.specs.Limits.{events_max}
use Rattle.event_store.proofs.push.Goals as goal

pub returns-then-n-lt-CAPACITY : goal.returns-then-n-lt-CAPACITY
returns-then-n-lt-CAPACITY c =
    let i = c.args in (
      ap (λ (l : List ℕ). buffer_view_in l (record { count = i.status.count + 1; overflow = i.status.overflow })) c.put.ensures
          ∙ lent-pushed i.held.now i.status i.e _ _ c.told-held c.if-n-lt-CAPACITY.true
          (new-held i.e _ _ c.event_words-w.ensures.0 c.event_words-w.ensures.1),
      rw (lt-ltb i.status.count events_max c.if-n-lt-CAPACITY.true),
    )

pub returns : goal.returns
returns c =
    let i = c.args in
    (lent-dropped i.held.now i.status i.e c.if-n-lt-CAPACITY.false, rw (le-ltb i.status.count events_max c.if-n-lt-CAPACITY.false))
