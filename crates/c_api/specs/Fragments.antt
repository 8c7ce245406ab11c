-- What a fragment's call gives the host: numbers, and the objects to be carried out.
-- Assumes nothing.
use Rattle.std.specs.Prelude.{ℕ, ◌≡◌, List, length, Ok, Err}
use Rattle.control_words.specs.Operated.{OperatedAs}
use Rattle.outstation.specs.declared.Head.{Head}
use Rattle.outstation.specs.Lent.{Lent, Outstation, outstation_view, CountsWithin, view_of}
use Rattle.outstation.specs.Step.{Answer, took, answers, silent, accepts, refuses, handed, output_after, Result, fragment, step}
use Rattle.fragments.specs.declared.FragmentAnswer.TheVariants as Fs
use Rattle.fragments.specs.FragmentMeets.{fragment_refusal_number, Answering}
use Rattle.c_api.specs.declared.FragmentWords.{FragmentWords}
use Rattle.c_api.specs.declared.AnswerWords.{AnswerWords}

-- the numbers of each answer
abbrev pub answer_words : Answering → FragmentWords
answer_words (Ok (Fs.Answer n)) = record { length = n; kind = 0; refusal = 0 }
answer_words (Ok Fs.Silent) = record { length = 0; kind = 1; refusal = 0 }
answer_words (Ok Fs.Confirmed) = record { length = 0; kind = 2; refusal = 0 }
answer_words (Err why) = record { length = 0; kind = 3; refusal = fragment_refusal_number why }

-- what a call gives for a step's answer, every field in every case: kind 0, answered with the first `length` lent bytes; 1, not
-- answered; 2, a CONFIRM accepted; 3, refused. (A reading's answer is none of a fragment's.)
abbrev pub fragment_result : Answer → FragmentWords
fragment_result (took taken n) = record { length = 0; kind = 3; refusal = n }
fragment_result (answers bytes operated) = record { length = length bytes; kind = 0; refusal = 0 }
fragment_result (silent operated) = record { length = 0; kind = 1; refusal = 0 }
fragment_result accepts = record { length = 0; kind = 2; refusal = 0 }
fragment_result (refuses n) = record { length = 0; kind = 3; refusal = n }

-- the result r of a call on o, that left the memory m₁ and had these lent bytes before and after, is this step's: new state, every number of
-- the answer, objects handed to the host, each lent byte; and no count of the state passes its array, where none did before
pub record HostMeets (o : Outstation) (r : AnswerWords) (m₁ : Lent) (before after : List ℕ) (x : Result) : Type 0 where
  pub state : outstation_view (record { head = r.head; lent = m₁ }) ≡ x.state
  pub answer : r.answer ≡ fragment_result x.answer
  pub operated : OperatedAs r.operated (handed x.answer)
  pub lent : after ≡ output_after before x.answer
  pub counted : CountsWithin o → CountsWithin (record { head = r.head; lent = m₁ })

-- the call: the fragment f at this time, on the head h and the memory m
abbrev pub HostFragmentMeets : Head → Lent → (time : ℕ) (f : List ℕ) → AnswerWords → Lent → (before after : List ℕ) → Type 0
HostFragmentMeets h m time f r m₁ before after =
    HostMeets (record { head = h; lent = m }) r m₁ before after (step (fragment time f (length before)) (view_of h m))
