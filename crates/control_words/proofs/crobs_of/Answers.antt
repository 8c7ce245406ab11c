-- `control_words::crobs_of` meets its contract. Assumes nothing.
use Rattle.control_words.specs.Operated.{crob_object}
use Rattle.control_words.proofs.WordsLaws.{map-some}
use Rattle.control_words.proofs.crobs_of.Goals as goal

pub returns : goal.returns
returns c = record { objects = map-some crob_object _ _ c.taken-count.ensures.0; count = c.taken-count.ensures.1 }
