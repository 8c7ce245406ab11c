-- `last_request::remember` meets its contract. Assumes nothing.
use Rattle.last_request.specs.Repeat.{kept, last_in}
use Rattle.octets.proofs.Splice.{stored-splice}
use lib.ListN.{length, take}
use mathlib.Core.Path.{refl, ap, ap₂, ◌∙◌}
use native.Mathlib.Omega.{arith}
use Rattle.last_request.proofs.remember.Goals as goal

pub returns : goal.returns
unfolding last_in
returns c =
    let a = c.args in (
      ap₂ kept
          (ap (take (length a.f.now)) c.copy.ensures ∙ stored-splice _ 0 a.f.now (omega (arith, c.told-request)))
          (ap (take (length a.a.now)) c.copy-2.ensures ∙ stored-splice _ 0 a.a.now (omega (arith, c.told-answer))),
      refl,
      refl,
    )
