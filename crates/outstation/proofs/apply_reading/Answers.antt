-- `outstation::apply_reading` meets its contract. Assumes nothing.
use Rattle.outstation.proofs.HeadLaws.{late, in-time, time-below}
use mathlib.Core.Path.{sym, ◌∙◌}
use mir.Facts.{to_z-of_z}
use mir.Syntax.{w32}
use mir.Val.{SFits}
use Rattle.outstation.specs.ReadingParts.{with_changes}
use borrow.Author.Rules.{rules}
use Rattle.outstation.proofs.apply_reading.Goals as goal

pub returns-then-bad_time : goal.returns-then-bad_time
returns-then-bad_time c =
    let i = c.args in
    λ h. late (with_changes h i.n i.m) (record { binaries = i.binaries.now; analogs = i.analogs.now; held = i.held.now }) i.r (sym c.bad_time.ensures ∙ c.if-bad_time.true)

pub apply_binary-requires : goal.apply_binary-requires
apply_binary-requires c =
    time-below c.args.m.clock _ (sym c.bad_time.ensures ∙ c.if-bad_time.false)

pub apply_whole-requires : goal.apply_whole-requires
apply_whole-requires c =
    time-below c.args.m.clock _ (sym c.bad_time.ensures ∙ c.if-bad_time.false)

pub apply_float-requires : goal.apply_float-requires
apply_float-requires c =
    time-below c.args.m.clock _ (sym c.bad_time.ensures ∙ c.if-bad_time.false)

pub returns-in-State : goal.returns-in-State
returns-in-State c =
    let i = c.args in
    λ h.
    in-time (with_changes h i.n i.m) (record { binaries = i.binaries.now; analogs = i.analogs.now; held = i.held.now }) i.r (sym c.bad_time.ensures ∙ c.if-bad_time.false) _ c.in-State.is _ _ _ (c.apply_binary.ensures h i.analogs.now)

pub returns-in-Whole : goal.returns-in-Whole
returns-in-Whole c =
    let i = c.args in
    let fits : SFits w32 c.in-Whole.z = search rules in
    λ h.
    in-time (with_changes h i.n i.m) (record { binaries = i.binaries.now; analogs = i.analogs.now; held = i.held.now }) i.r (sym c.bad_time.ensures ∙ c.if-bad_time.false) _ c.in-Whole.is _ _ _ (rw (to_z-of_z fits) at (c.apply_whole.ensures h i.binaries.now))

pub returns-in-Float : goal.returns-in-Float
returns-in-Float c =
    let i = c.args in
    λ h.
    in-time (with_changes h i.n i.m) (record { binaries = i.binaries.now; analogs = i.analogs.now; held = i.held.now }) i.r (sym c.bad_time.ensures ∙ c.if-bad_time.false) _ c.in-Float.is _ _ _ (c.apply_float.ensures h i.binaries.now)
