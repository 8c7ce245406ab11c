-- `effects::write_effect` meets its contract.
-- Assumes nothing.
use mathlib.Core.Path.{sym, ◌∙◌}
use Rattle.effects.proofs.write_effect.Goals as goal

pub returns-in-None : goal.returns-in-None
returns-in-None c = λ w lent. rw (sym c.write_fault.ensures ∙ c.in-None.is) (c.plain_effect.ensures w lent)

pub returns-in-Some : goal.returns-in-Some
returns-in-Some c = λ w lent. rw (sym c.write_fault.ensures ∙ c.in-Some.is) (c.plain_effect-in-Some.ensures w lent)
