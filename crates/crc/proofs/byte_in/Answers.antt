-- `crc::byte_in` meets its contract: the low byte is shifted out, the high one stays.
-- Assumes nothing.
use borrow.Author.Rules.{rules}
use Rattle.crc.proofs.Laws.{byte-by-parts}
use Rattle.crc.proofs.byte_in.Goals as goal

pub returns : goal.returns
returns c =
    cc (byte-by-parts c.args.r c.args.b (search rules))
