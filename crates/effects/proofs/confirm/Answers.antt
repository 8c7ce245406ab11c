-- `effects::confirm` meets its contract. Assumes nothing.
use Rattle.std.proofs.Common.{sym, ◌∙◌}
use Rattle.effects.proofs.EffectLaws.{confirm-idle, confirm-late, confirm-good}
use Rattle.effects.proofs.confirm.Goals as goal

pub returns-in-Some : goal.returns-in-Some
returns-in-Some c =
    let a = c.args in
    λ w same. confirm-good w a.awaited a.q.0 a.uns a.time c.in-Some.a c.in-Some.is a.confirm_time same (sym c.is_confirmed.ensures ∙ c.if-is_confirmed.true)

pub returns-in_default : goal.returns-in_default
returns-in_default c =
    let a = c.args in
    λ w same. confirm-late w a.awaited a.q.0 a.uns a.time c.in-Some.a c.in-Some.is a.confirm_time same (sym c.is_confirmed.ensures ∙ c.if-is_confirmed.false)

pub returns-in_default-2 : goal.returns-in_default-2
returns-in_default-2 c =
    let a = c.args in
    λ w same. confirm-idle w a.awaited a.q.0 a.uns a.time c.in_default.is
