-- The digits of what is left, put where the loop stands, give what those of all give.
-- Assumes nothing.
use Rattle.std.proofs.Common.{◌≡◌, ◌*◌, length, drop}
use Rattle.octets.specs.Bytes.{splice}
use Rattle.text.specs.Words.{cursor_after, hex_of}
use Rattle.text.proofs.Answers.put_hex.Given as goal

abbrev pub invariant-loop-b : goal.invariant-loop-b
invariant-loop-b g l = record {
  bytes : splice l.self.bytes l.self.len (hex_of (drop l.b-index l.s)) ≡ splice l.initial.self.bytes l.initial.self.len (hex_of l.s);
  len : l.self.len ≡ cursor_after (length l.initial.self.bytes) l.initial.self.len (2 * l.b-index);
  size : length l.self.bytes ≡ length l.initial.self.bytes;
}
