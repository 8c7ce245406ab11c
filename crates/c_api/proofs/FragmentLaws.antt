-- The numbers of an answer to a fragment stand for that answer.
-- Assumes nothing.
use Prim.Native.Nat.{ℕ}
use mathlib.Core.Path.{◌≡◌, sym, ap, subst, ◌∙◌}
use mathlib.Core.List.{List}
use Rattle.std.proofs.Common.{Ok, Err}
use Rattle.control.specs.declared.ControlObject.{ControlObject}
use Rattle.control.specs.Objects.{list_of}
use Rattle.control_words.specs.declared.OperatedWords.{OperatedWords}
use Rattle.control_words.specs.Operated.{OperatedAs}
use Rattle.outstation.specs.Lent.{Lent, Outstation}
use Rattle.outstation.specs.Step.{Answer, Result}
use Rattle.fragments.specs.declared.FragmentAnswer.TheVariants as Fs
use Rattle.fragments.specs.declared.FragmentResult.{FragmentResult}
use Rattle.fragments.specs.FragmentMeets.{Answering, answer_by, size_by, size_in, FragmentMeets, answered_by}
use Rattle.c_api.specs.declared.FragmentWords.{FragmentWords}
use Rattle.c_api.specs.Fragments.{answer_words, fragment_result, HostMeets}

-- the number of bytes and the case are those of the step's answer
answer-is : (a : Answering) (d : List ℕ) (operated : List ControlObject) (x : Answer) → answer_by a d operated ≡ x → size_by a ≡ size_in x → answer_words a ≡ fragment_result x
answer-is (Ok (Fs.Answer n)) d operated x e z = ap (λ (k : ℕ). record { length = k; kind = 0; refusal = 0 }) (z ∙ ap size_in (sym e)) ∙ ap fragment_result e
answer-is (Ok Fs.Silent) d operated x e z = ap fragment_result e
answer-is (Ok Fs.Confirmed) d operated x e z = ap fragment_result e
answer-is (Err why) d operated x e z = ap fragment_result e

pub host-given : (o : Outstation) (t : FragmentResult) (m₁ : Lent) (before after : List ℕ) (x : Result) (p : OperatedWords) (a : FragmentWords)
    → FragmentMeets o (answered_by t m₁) before after x → OperatedAs p (list_of t.operated) → a ≡ answer_words t.answer
    → HostMeets o (record { head = t.head; operated = p; answer = a }) m₁ before after x
host-given o t m₁ before after x p a g w e =
    record {
      state = g.state;
      answer = e ∙ answer-is t.answer after (list_of t.operated) x.answer g.answer g.size;
      operated = subst (OperatedAs p) g.operated.objects w;
      lent = g.lent;
      counted = g.counted;
    }
