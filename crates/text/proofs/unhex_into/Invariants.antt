-- The bytes that stand and those of the rest are the bytes of the word.
-- Assumes nothing.
use Rattle.std.proofs.Common.{◌≡◌, ◌*◌, ◌++◌, length, take, drop}
use Rattle.text.specs.Words.{unhex, all_hex}
use Rattle.text.proofs.unhex_into.Given as goal

abbrev pub invariant-loop-k : goal.invariant-loop-k
invariant-loop-k l = record {
  bytes : take l.k l.out ++ unhex (drop (2 * l.k) l.w) ≡ unhex l.w;
  digits : all_hex (drop (2 * l.k) l.w) ≡ all_hex l.w;
  room : length l.out ≡ length l.initial.out;
}
