-- `frame::put_with_crc` meets its contract: two splices next to each other.
-- Assumes nothing.
use Rattle.octets.specs.Bytes.{le}
use Rattle.octets.proofs.Splice.{splice-append}
use Rattle.crc.specs.Check.{check_of}
use Rattle.frame.specs.Frame.{with_crc}
use Rattle.frame.proofs.put_with_crc.Goals as goal

pub returns : goal.returns
unfolding with_crc
returns c =
    let a = c.args in
    cc (splice-append a.out.now a.at a.s.now (le 2 (check_of a.s.now)))
