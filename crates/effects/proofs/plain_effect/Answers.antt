-- `effects::plain_effect` meets its contract.
-- Assumes nothing.
use mathlib.Core.Path.{refl, sym}
use native.Mathlib.Omega.{arith}
use Rattle.octets.proofs.Splice.{splice-nil}
use Rattle.select_latch.specs.Select.{latch_of}
use Rattle.effects.proofs.plain_effect.Goals as goal

pub returns : goal.returns
unfolding latch_of
returns c =
    λ w lent.
    record {
      fault = refl;
      con = refl;
      size = refl;
      lent = sym (splice-nil lent 4);
      operated = c.none.ensures;
      wait = refl;
      latch = refl;
      counted = omega arith;
      restarted = refl;
    }
