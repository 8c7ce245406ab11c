-- `receiver::gather` meets its contract: the bytes are copied behind those kept.
-- Assumes nothing.
use mathlib.Core.Path.{ap, ◌∙◌}
use Prim.Native.Nat.{ℕ, ◌+◌}
use native.Mathlib.Omega.{arith}
use mathlib.Core.List.{List}
use lib.ListN.{length, take}
use Rattle.receiver.proofs.KeptLaws.{gathered, gathered-length}
use Rattle.receiver.proofs.gather.Goals as goal

pub returns : goal.returns
returns c =
    let a = c.args in
    let k = c.min-n.result in (
      c.min-n.ensures,
      ap (take (a.from + k)) c.copy.ensures ∙ gathered a.memory.now a.piece.now a.from k (omega arith) (omega arith),
      ap (λ (l : List ℕ). length (take (a.from + k) l)) c.copy.ensures ∙ gathered-length a.memory.now a.piece.now a.from k (omega arith) (omega arith),
    )
