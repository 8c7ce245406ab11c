-- `fragments::answer_request` meets its contract.
-- Assumes nothing.
use mathlib.Core.List.{List}
use mathlib.Core.Path.{◌≡◌, subst, ◌∙◌}
use Prim.Native.Nat.{ℕ, ◌-◌, ◌≤◌}
use native.Mathlib.Omega.{arith}
use lib.Dec.{eqb}
use lib.ListN.{length, take, drop, length-take}
use Rattle.laws.proofs.Filling.{to_end}
use Rattle.events.specs.BufferView.{BufferView}
use Rattle.outstation.specs.Step.{effect_by}
use Rattle.effects.specs.Effects.{EffectMeets, context_view}
use Rattle.fragments.proofs.AnswerLaws.{kept-most}
use Rattle.effects.proofs.EffectLaws.{effect-small}
use Rattle.fragments.proofs.PartLaws.{other-in}
use Rattle.fragments.proofs.answer_request.Goals as goal
use Rattle.fragments.proofs.answer_request.Goals.{After-put_answer-n}

-- the answer has at most 113 bytes
module _ (c : After-put_answer-n) where
  small : c.effect_by-d.result.size ≤ 113
  small =
      let a = c.args in
      effect-small c.context_of-seen.result a.outputs.now a.r.sequence.0 a.r.function a.r.time (take (length a.r.bytes.now - 2) (drop 2 a.r.bytes.now)) c.effect_by-d.result a.out.now _
      c.effect_by-d.ensures

  less : c.put_answer-n.result ≤ 113
  less = kept-most (eqb c.args.r.function 6) c.put_answer-n.result c.effect_by-d.result.size c.put_answer-n.ensures.1 small

  same : length c.put_answer-n.new.out ≡ length c.args.out.now
  same = c.put_answer-n.auto.out ∙ c.effect_by-d.auto.out

pub slice_bounds-remember-end : goal.slice_bounds-remember-end
slice_bounds-remember-end c =
    omega (arith, less (goal.at.slice_bounds-remember-end c).After-put_answer-n, same (goal.at.slice_bounds-remember-end c).After-put_answer-n, c.requires)

pub slice_bounds-remember-end-2 : goal.slice_bounds-remember-end-2
slice_bounds-remember-end-2 c =
    simp length-take (omega (arith, less (goal.at.slice_bounds-remember-end-2 c).After-put_answer-n, same (goal.at.slice_bounds-remember-end-2 c).After-put_answer-n, c.requires))

pub remember-kept-requires : goal.remember-kept-requires
remember-kept-requires c =
    (c.args.r.short, simp length-take (omega (arith, less (goal.at.remember-kept-requires c).After-put_answer-n)))

pub shape_of-out : goal.shape_of-out
shape_of-out c =
    same (goal.at.shape_of-out c).After-put_answer-n

pub returns : goal.returns
returns c =
    let a = c.args in
    let dd = c.effect_by-d in
    let seen = c.context_of-seen in
    let pa = c.put_answer-n in
    let short : length (take pa.result pa.new.out) ≤ 113 = simp length-take (omega (arith, less (goal.at.returns c).After-put_answer-n)) in
    other-in a.h a.held.now a.request.now a.answer.now a.objects.now a.outputs.now a.r.sequence.0 a.r.function a.r.time a.r.bytes.now _ _ _ _ dd.result a.out.now _ _
    pa.result _ c.remember-kept.result c.after_request.result c.after_request.ensures c.remember-kept.ensures a.r.short short c.requires
    c.answer_as.ensures _ seen.result c.buffer_status-t.ensures seen.ensures
    (λ (u : BufferView). subst (λ (x : List ℕ). EffectMeets dd.result a.out.now dd.new.out (effect_by (context_view seen.result a.outputs.now u) a.r.sequence.0 a.r.function a.r.time x)) (to_end a.r.bytes.now 2) (dd.ensures u))
    c.clear.ensures pa.ensures
