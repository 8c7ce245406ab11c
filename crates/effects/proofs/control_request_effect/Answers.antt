-- `effects::control_request_effect` meets its contract.
-- Assumes nothing.
use mathlib.Core.Path.{refl, ap}
use Prim.Native.Nat.{ℕ, ◌+◌}
use native.Mathlib.Omega.{arith}
use Rattle.control.specs.Status.{outputs_of}
use Rattle.select_latch.specs.Select.{latch_of}
use Rattle.last_request.proofs.ReplyLaws.{echo-most}
use Rattle.effects.proofs.control_request_effect.Goals as goal

pub overflow_add-result : goal.overflow_add-result
overflow_add-result c =
    let a = c.args in
    let most = echo-most (outputs_of a.seen.outputs a.ws.now) a.seen.arm_time (latch_of a.seen.latch) a.g a.q.0 a.time a.s.now in
    let len = c.control_effect-c.ensures.len in
    omega (arith, most, len)

pub returns : goal.returns
returns c =
    let done = c.control_effect-c.ensures in
    λ k.
    record {
      fault = done.fault;
      con = refl;
      size = ap (λ (n : ℕ). 4 + n) done.len;
      lent = done.lent;
      operated = done.carried;
      wait = refl;
      latch = done.latch;
      counted = done.counted;
      restarted = refl;
    }
