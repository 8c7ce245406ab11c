-- What is left of the bytes, put where the loop stands, gives what all of them give.
-- Assumes nothing.
use Rattle.std.proofs.Common.{◌≡◌, length, drop}
use Rattle.octets.specs.Bytes.{splice}
use Rattle.text.specs.Words.{cursor_after}
use Rattle.text.proofs.Answers.put_bytes.Given as goal

abbrev pub invariant-loop-b : goal.invariant-loop-b
invariant-loop-b g l = record {
  bytes : splice l.self.bytes l.self.len (drop l.b-index l.s) ≡ splice l.initial.self.bytes l.initial.self.len l.s;
  len : l.self.len ≡ cursor_after (length l.initial.self.bytes) l.initial.self.len l.b-index;
  size : length l.self.bytes ≡ length l.initial.self.bytes;
}
