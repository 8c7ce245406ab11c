-- `crc::shift_byte` meets its contract: its two numbers are those of the byte's halves.
-- Assumes nothing.
use borrow.Author.Rules.{rules}
use Rattle.crc.proofs.TableLaws.{byte-shifted}
use Rattle.crc.proofs.shift_byte.Goals as goal

pub returns : goal.returns
returns c =
    byte-shifted c.args.t.now c.requires.0 c.args.place c.args.b c.requires.1 (search rules)
