use mathlib.Core.Path.{◌∙◌}
use native.Mathlib.Omega.{arith}
use borrow.Author.Tests.{eq-eqb, ne_eqb}
use Rattle.octets.proofs.Splice.{splice-one}
use Rattle.text.proofs.HexLaws.{length-hex_of}
use Rattle.text.proofs.Answers.put_run.Goals as goal

pub returns-then-s-eq0-clause-bytes : goal.returns-then-s-eq0-clause-bytes
returns-then-s-eq0-clause-bytes g c = let a = c.args.self.now in rw (eq-eqb _ _ c.if-s-eq0.true, splice-one a.bytes a.len 45) c.put.ensures.bytes

pub returns-else-s-eq0-clause-len : goal.returns-else-s-eq0-clause-len
returns-else-s-eq0-clause-len g c = rw (ne_eqb _ _ c.if-s-eq0.false, length-hex_of c.args.s.now) c.put_hex.ensures.len
