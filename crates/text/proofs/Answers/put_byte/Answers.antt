use mathlib.Core.Path.{◌≡◌, refl}
use native.Mathlib.Omega.{arith}
use lib.ListN.{length-set}
use Rattle.text.proofs.Writing.{put_two}
use Rattle.text.proofs.Answers.put_byte.Goals as goal

pub returns-clause-bytes : goal.returns-clause-bytes
returns-clause-bytes g c = let a = c.args.self.now in cc (put_two a.bytes a.len c.digit.result c.digit-2.result, c.put.ensures.bytes, c.put.ensures.len, c.put-2.ensures.bytes)
