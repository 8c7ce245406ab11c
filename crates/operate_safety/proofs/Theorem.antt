-- Over every list of calls, from any accepted setup: what is handed to the host.
-- Assumes nothing.
use mathlib.Core.Path.{◌≡◌, refl, sym, ap, ◌∙◌}
use mathlib.Core.List.{List, [], ◌∷◌, ◌++◌, append-nil, append_assoc}
use Prim.Native.Nat.{ℕ}
use Rattle.control.specs.declared.ControlObject.{ControlObject}
use Rattle.control.specs.Status.{Outputs}
use Rattle.last_request.specs.Requests.{Request, outcome}
use Rattle.last_request.proofs.Controls.{controls-safe}
use Rattle.outstation.specs.Setup.{outputs_set_up}
use Rattle.outstation.specs.OutstationView.{OutstationView, restarted}
use Rattle.outstation.specs.Lent.{Outstation, outstation_view}
use Rattle.outstation.specs.Step.{Call, Answer, Result, step}
use Rattle.book.specs.Demand3.{Ran, none, more}
use Rattle.operate_safety.specs.Operated.{request_of, requests_after, requests_of, Gives, handed_over, all_handed, Handing, OperatedOnlySelected}
use Rattle.operate_safety.proofs.Steps.{Sim, Does, step_ok, start-ok}
use Rattle.operate_safety.proofs.Gives.{gives-step, gives-handing, gives-counted}
use Rattle.operate_safety.proofs.Apart.{handing-apart}

module _ (outputs : Outputs) (arm : ℕ) where
  -- what a call hands over is what its requests add
  adds : (h rs : List Request) (a : Answer) (over : List ControlObject) → Handing outputs arm h rs a over
      → outcome outputs arm (rs ++ h) ≡ outcome outputs arm h ++ over
  unfolding outcome
  adds h [] a over x = rw x.none (sym (append-nil (outcome outputs arm h)))
  adds h (r ∷ []) a over x = rw x.hands refl
  adds h (r ∷ s ∷ rs) a over x = absurd x

  -- after a list of calls that handed over these objects
  pub record Kept (h : List Request) (cs : List Call) (over : List ControlObject) (w w₂ : OutstationView) : Type 0 where
    pub sim : Sim outputs arm w₂ (requests_after cs w h)
    pub total : outcome outputs arm (requests_after cs w h) ≡ outcome outputs arm h ++ over

  one_more : (h : List Request) (c : Call) (cs : List Call) (a : Answer) (over rest : List ControlObject) (w w₁ w₂ : OutstationView)
      → Handing outputs arm h (request_of c w) a over → w₁ ≡ (step c w).state → Kept (request_of c w ++ h) cs rest w₁ w₂
      → Kept h (c ∷ cs) (over ++ rest) w w₂
  one_more h c cs a over rest w w₁ w₂ x s k =
      record {
        sim = rw (← s) k.sim;
        total =
            rw (← s)
            (k.total ∙ ap (λ (l : List ControlObject). l ++ rest) (adds h (request_of c w) a over x)
            ∙ append_assoc (outcome outputs arm h) over rest);
      }

  -- one call
  next-does : (o o₁ : Outstation) (c : Call) (a : Answer) (h : List Request) → Sim outputs arm (outstation_view o) h → Gives o c a o₁
      → Does outputs arm h (request_of c (outstation_view o)) (record { state = outstation_view o₁; answer = a })
  next-does o o₁ c a h m g = rw (gives-step o o₁ c a g) (step_ok outputs arm c (outstation_view o) h m)

  next-hands : (o o₁ : Outstation) (c : Call) (a : Answer) (h : List Request) → Sim outputs arm (outstation_view o) h → (g : Gives o c a o₁)
      → Handing outputs arm h (request_of c (outstation_view o)) a (handed_over g)
  next-hands o o₁ c a h m g = gives-handing outputs arm h o o₁ c a g (next-does o o₁ c a h m g).handing

  all-kept : {o o₂ : Outstation} {cs : List Call} {ans : List Answer} (h : List Request) → Sim outputs arm (outstation_view o) h
      → (run : Ran Outstation Gives o cs ans o₂) → Kept h cs (all_handed run) (outstation_view o) (outstation_view o₂)
  all-kept h m none = record { sim = m; total = sym (append-nil (outcome outputs arm h)) }
  all-kept h m (more {o} {o₁} {o₂} {c} {cs} {a} {ans} g rest) =
      let x = next-does o o₁ c a h m g in
      let s : outstation_view o₁ ≡ (step c (outstation_view o)).state = ap (λ (y : Result). y.state) (gives-step o o₁ c a g) in
      one_more h c cs a (handed_over g) (all_handed rest) (outstation_view o) (outstation_view o₁) (outstation_view o₂) (next-hands o o₁ c a h m g) s
      (all-kept (request_of c (outstation_view o) ++ h) x.sim rest)

  -- from a view that no request has changed
  from_start : (w : OutstationView) {o o₂ : Outstation} {cs : List Call} {ans : List Answer} → Sim outputs arm w [] → outstation_view o ≡ w
      → (run : Ran Outstation Gives o cs ans o₂) → Kept [] cs (all_handed run) w (outstation_view o₂)
  from_start w m e run = rw e at (all-kept [] (rw e m) run)

pub operated-only-selected : OperatedOnlySelected
unfolding outcome
operated-only-selected u o o₂ cs ans f e run =
    let k = from_start (outputs_set_up u) u.arm_time (restarted u) (start-ok u) e run in
    record {
      next = λ c a o₃ g. next-hands (outputs_set_up u) u.arm_time o₂ o₃ c a (requests_of u cs) k.sim g;
      counted = λ c a o₃ g. gives-counted o₂ o₃ c a g;
      apart =
          λ c a o₃ g.
          handing-apart (outputs_set_up u) u.arm_time (requests_of u cs) (request_of c (outstation_view o₂)) a (handed_over g)
          (next-hands (outputs_set_up u) u.arm_time o₂ o₃ c a (requests_of u cs) k.sim g);
      once = sym k.total ∙ sym ((controls-safe (outputs_set_up u) u.arm_time).once (requests_of u cs)).1;
    }
