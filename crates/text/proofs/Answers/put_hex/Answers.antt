use native.Mathlib.Omega.{arith}
use Rattle.octets.proofs.Splice.{length-splice}
use Rattle.text.proofs.HexLaws.{hex-turn, hex-end}
use Rattle.text.proofs.Answers.put_hex.Goals as goal

pub loop-b-preserved : goal.loop-b-preserved
loop-b-preserved g c = let l = c.loop-b in let s = c.args.s.now in
    record {
      bytes = cc (hex-turn l.self.bytes l.self.len l.b-index s (omega arith), c.put_byte.ensures.bytes, c.put_byte.ensures.len, l.invariant.bytes);
      len = omega (arith, c.put_byte.ensures.len, l.invariant.len, l.invariant.size);
      size = rw c.put_byte.ensures.bytes (simp length-splice l.invariant.size);
    }

pub returns-clause-bytes : goal.returns-clause-bytes
returns-clause-bytes g c = let l = c.loop-b in cc (hex-end l.self.bytes l.self.len l.b-index c.args.s.now (omega arith), l.invariant.bytes)
