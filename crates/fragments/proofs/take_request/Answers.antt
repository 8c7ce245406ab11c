-- `fragments::take_request` meets its contract.
-- Assumes nothing.
use mathlib.Core.Path.{sym, ap, ◌∙◌}
use Rattle.std.proofs.Common.{Option}
use borrow.Author.Tests.{eq-eqb, ne_eqb}
use Rattle.outstation.specs.OutstationView.{OutstationView}
use Rattle.last_request.specs.Repeat.{is_repeat, last_in}
use Rattle.fragments.proofs.AnswerLaws.{by_read, by-repeat, by-other}
use Rattle.last_request.specs.declared.LastLengths.{LastLengths}
use Rattle.outstation.specs.Lent.{Lent, view_of}
use Rattle.fragments.specs.FragmentMeets.{PartMeets}
use Rattle.fragments.proofs.take_request.Goals as goal
use Rattle.fragments.proofs.take_request.Goals.{Start}

-- the memory and the state at entry
abbrev mem : Start → Lent
mem s =
    let a = s.args in
    record { binaries = a.binaries.now; analogs = a.analogs.now; held = a.held.now; request = a.request.now; answer = a.answer.now; objects = a.objects.now; outputs = a.outputs.now }

abbrev was : Start → OutstationView
was s = view_of s.args.h (mem s)

pub returns-then-r-eq1 : goal.returns-then-r-eq1
returns-then-r-eq1 c =
    let a = c.args in
    let r = c.answer_read in
    by_read (was (goal.at.returns-then-r-eq1 c).Start) a.r.sequence.0 a.r.function a.r.time a.r.bytes.now (PartMeets a.h r.result _ a.out.now _) (eq-eqb _ _ c.if-r-eq1.true) (r.ensures a.objects.now a.outputs.now)

pub returns-then-is_repeat : goal.returns-then-is_repeat
returns-then-is_repeat c =
    let a = c.args in
    let r = c.repeat_request in
    by-repeat (was (goal.at.returns-then-is_repeat c).Start) a.r.sequence.0 a.r.function a.r.time a.r.bytes.now (PartMeets a.h r.result _ a.out.now _) (ne_eqb _ _ c.if-r-eq1.false)
    (sym (c.is_repeat.ensures ∙ ap (λ (k : Option LastLengths). is_repeat (last_in a.request.now a.answer.now k) a.r.bytes.now) c.last_of.ensures) ∙ c.if-is_repeat.true) (r.ensures (mem (goal.at.returns-then-is_repeat c).Start))

pub returns : goal.returns
returns c =
    let a = c.args in
    let r = c.answer_request in
    by-other (was (goal.at.returns c).Start) a.r.sequence.0 a.r.function a.r.time a.r.bytes.now (PartMeets a.h r.result _ a.out.now _) (ne_eqb _ _ c.if-r-eq1.false)
    (sym (c.is_repeat.ensures ∙ ap (λ (k : Option LastLengths). is_repeat (last_in a.request.now a.answer.now k) a.r.bytes.now) c.last_of.ensures) ∙ c.if-is_repeat.false) (r.ensures a.binaries.now a.analogs.now)
