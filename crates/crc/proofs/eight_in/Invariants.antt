-- `crc::eight_in` meets its contract. The invariant: what is put together so far, with what the bytes to come give, is what the six after the first two give.
-- Assumes nothing.
use mathlib.Core.Path.{◌≡◌}
use lib.Bits.{bit_xor}
use lib.ListN.{drop}
use Rattle.crc.specs.Check.{remainder}
use Rattle.crc.proofs.eight_in.Given as goal

abbrev pub invariant-loop-place : goal.invariant-loop-place
invariant-loop-place l = bit_xor l.q (remainder 0 (drop l.place l.s)) ≡ remainder 0 (drop 2 l.s)
