-- What a call's contract gives is the step of its call, and what it hands over is what that step's answer has.
-- Assumes nothing.
use Prim.Native.Nat.{ℕ}
use mathlib.Core.Path.{◌≡◌, refl, sym, ap, subst, ◌∙◌}
use mathlib.Core.List.{List}
use lib.ListN.{length}
use Rattle.control.specs.declared.ControlObject.{ControlObject}
use Rattle.control.specs.Objects.{list_of}
use Rattle.control.specs.Status.{Outputs}
use Rattle.last_request.specs.Requests.{Request}
use Rattle.outstation.specs.Lent.{Outstation, outstation_view}
use Rattle.outstation.specs.Step.{Call, fragment, Answer, Result, handed, step}
use Rattle.outstation.specs.CallContracts.{StepHolds}
use Rattle.fragments.specs.FragmentMeets.{Answered, fragment_answer, FragmentMeets}
use Rattle.fragments.proofs.HoldsLaws.{given-did}
use Rattle.operate_safety.specs.Operated.{request_of, Gives, gave_reading, gave_table, gave_fragment, handed_over, handed_count, Handing}

-- ---- the only places that open the contracts' own records

did-step : (o o₁ : Outstation) (c : Call) (a : Answer) → StepHolds o c a o₁ → ◌≡◌ {A = Result} (record { state = outstation_view o₁; answer = a }) (step c (outstation_view o))
did-step o o₁ c a d = d.result

module _ (o : Outstation) (time : ℕ) (f lent after : List ℕ) (r : Answered) (g : FragmentMeets o r lent after (step (fragment time f (length lent)) (outstation_view o))) where
  given-step : ◌≡◌ {A = Result} (record { state = outstation_view r.state; answer = fragment_answer r after }) (step (fragment time f (length lent)) (outstation_view o))
  given-step = did-step o r.state (fragment time f (length lent)) (fragment_answer r after) (given-did o time f lent after r g)

  given-handed : list_of r.operated ≡ handed (step (fragment time f (length lent)) (outstation_view o)).answer
  given-handed = g.operated.objects

  given_counted : r.operated.count ≡ length (list_of r.operated)
  given_counted = g.operated.count ∙ sym (ap (λ (l : List ControlObject). length l) g.operated.objects)

  -- what the struct holds is what the answer hands over
  given-over : list_of r.operated ≡ handed (fragment_answer r after)
  given-over = given-handed ∙ sym (ap (λ (x : Result). handed x.answer) given-step)

-- ---- any call

pub gives-step : (o o₁ : Outstation) (c : Call) (a : Answer) → Gives o c a o₁
    → ◌≡◌ {A = Result} (record { state = outstation_view o₁; answer = a }) (step c (outstation_view o))
gives-step o o₁ c a (gave_reading d) = did-step o o₁ c a d
gives-step o o₁ c a (gave_table d) = did-step o o₁ c a d
gives-step o o₁ c a (gave_fragment {time} {f} r lent after g) = given-step o time f lent after r g

-- what is told of the answer's objects holds of those handed over
pub gives-handing : (outputs : Outputs) (arm : ℕ) (h : List Request) (o o₁ : Outstation) (c : Call) (a : Answer) (g : Gives o c a o₁)
    → Handing outputs arm h (request_of c (outstation_view o)) a (handed a) → Handing outputs arm h (request_of c (outstation_view o)) a (handed_over g)
unfolding request_of
gives-handing outputs arm h o o₁ c a (gave_reading d) x = record { reply = x.reply; none = refl }
gives-handing outputs arm h o o₁ c a (gave_table d) x = record { reply = x.reply; none = refl }
gives-handing outputs arm h o o₁ c a (gave_fragment {time} {f} r lent after g) x =
    subst (Handing outputs arm h (request_of (fragment time f (length lent)) (outstation_view o)) a) (sym (given-over o time f lent after r g)) x

pub gives-counted : (o o₁ : Outstation) (c : Call) (a : Answer) (g : Gives o c a o₁) → handed_count g ≡ length (handed_over g)
gives-counted o o₁ c a (gave_reading d) = refl
gives-counted o o₁ c a (gave_table d) = refl
gives-counted o o₁ c a (gave_fragment {time} {f} r lent after g) = given_counted _ time f lent after r g
