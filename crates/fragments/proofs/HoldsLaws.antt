-- What a fragment's contract says as the step of its call, the form that the event book takes.
-- Assumes nothing.
use mathlib.Core.List.{List}
use Prim.Native.Nat.{ℕ}
use lib.ListN.{length}
use Rattle.outstation.specs.Lent.{Outstation, outstation_view}
use Rattle.outstation.specs.Step.{fragment, step}
use Rattle.outstation.specs.CallContracts.{StepHolds}
use Rattle.fragments.specs.FragmentMeets.{Answered, fragment_answer, FragmentMeets}

pub given-did : (o : Outstation) (time : ℕ) (f b a : List ℕ) (r : Answered) → FragmentMeets o r b a (step (fragment time f (length b)) (outstation_view o))
    → StepHolds o (fragment time f (length b)) (fragment_answer r a) r.state
given-did o time f b a r g = record { result = λ k. record { state = g.state k; answer = g.answer k }; counted = g.counted }
