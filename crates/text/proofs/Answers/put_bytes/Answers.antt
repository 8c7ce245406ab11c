use native.Mathlib.Omega.{arith}
use lib.ListN.{length-set}
use Rattle.octets.proofs.Splice.{splice-end}
use Rattle.text.proofs.Writing.{put-turn}
use Rattle.text.proofs.Answers.put_bytes.Goals as goal

pub loop-b-preserved : goal.loop-b-preserved
loop-b-preserved g c = let l = c.loop-b in let s = c.args.s.now in
    record {
      bytes = cc (put-turn l.self.bytes l.self.len l.b-index s (omega arith), c.put.ensures.bytes, c.put.ensures.len, l.invariant.bytes);
      len = omega (arith, c.put.ensures.len, l.invariant.len, l.invariant.size);
      size = rw c.put.ensures.bytes (simp length-set l.invariant.size);
    }

pub returns-clause-bytes : goal.returns-clause-bytes
returns-clause-bytes g c = let l = c.loop-b in cc (splice-end l.self.bytes l.self.len l.b-index c.args.s.now (omega arith), l.invariant.bytes)
