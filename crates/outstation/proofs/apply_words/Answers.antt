-- `outstation::apply_words` meets its contract. Assumes nothing.
use Rattle.outstation.proofs.apply_words.Goals as goal

pub returns : goal.returns
returns c = λ h. rw c.from.ensures at (c.apply_reading.ensures h)
