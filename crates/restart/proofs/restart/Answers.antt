-- `restart::restart` meets its contract. Assumes nothing.
use mathlib.Core.Path.{◌≡◌, sym, ◌∙◌}
use mathlib.Core.Bool.{true, false, false≢true}
use mathlib.Core.List.{[], map}
use lib.ListN.{length}
use lib.Seq.{length-take-le}
use borrow.Author.Rules.{rules}
use Rattle.laws.specs.Lists.{all}
use Rattle.laws.proofs.Loops.{length-mapped}
use Rattle.outstation.specs.Setup.{setup_ok}
use Rattle.outstation.proofs.SetupLaws.{bounds, Bounds}
use Rattle.points.specs.Setup.{class_ok}
use Rattle.restart.specs.Restart.{setup_with, setup_of, front_ok, given_ok, analog_given_ok, fresh_analog_of}
use Rattle.restart.proofs.SetupLaws.{outputs_counted}
use Rattle.restart.proofs.StoringLaws.{whole-front}
use Rattle.restart.proofs.RestartFacts.{limits, whole, front-whole, fresh-front, fresh-none, broken, front, right, good}
use Rattle.restart.proofs.restart.Goals as goal
use Rattle.restart.proofs.restart.Goals.{
  After-fresh_head,
  After-no_outstation,
  Then-limits_ok,
  then-limits_ok+else-fresh_binaries,
  else-fresh_binaries-via-then-fresh_binaries+then-fresh_outputs+else-fresh_analogs,
  else-fresh_binaries-via-then-fresh_binaries+else-fresh_outputs,
  else-fresh_binaries-via-else-fresh_binaries,
  else-limits_ok,
}

kept : (c : Then-limits_ok) → limits c.args.s c.args.classes.now c.args.setups.now ≡ true
kept c = sym c.limits_ok.ensures ∙ c.if-limits_ok.true

within : (c : Then-limits_ok) → Bounds (setup_with c.args.s (length c.args.classes.now) [] (length c.args.setups.now) [] [])
within c = bounds _ (kept c)

pub shared_ref_as_front-given : goal.shared_ref_as_front-given
shared_ref_as_front-given c = rw c.from.ensures (within (goal.at.shared_ref_as_front-given c).Then-limits_ok).analog_outputs

pub fresh_binaries-requires : goal.fresh_binaries-requires
fresh_binaries-requires c = (within (goal.at.fresh_binaries-requires c).Then-limits_ok).binaries

pub fresh_analogs-requires : goal.fresh_analogs-requires
fresh_analogs-requires c = (within (goal.at.fresh_analogs-requires c).Then-limits_ok).analogs

-- every part is good
module _ (c : After-fresh_head) where
  binaries-ok : all (map class_ok c.args.classes.now) ≡ true
  binaries-ok = sym c.fresh_binaries.ensures.0 ∙ c.if-fresh_binaries.true

  outputs-ok : all (map given_ok (outputs_counted c.args.s)) ≡ true
  outputs-ok = rw c.from.ensures at (sym c.fresh_outputs.ensures.0 ∙ c.if-fresh_outputs.true)

  analogs-ok : all (map analog_given_ok c.args.setups.now) ≡ true
  analogs-ok = sym c.fresh_analogs.ensures.0 ∙ c.if-fresh_analogs.true

counted : (c : Then-limits_ok) → length (outputs_counted c.args.s) ≡ c.args.s.analog_output_count
counted c =
    let s = c.args.s in
    let long : length s.analog_outputs ≡ 16 = search (length-mapped, rules) in
    length-take-le s.analog_output_count s.analog_outputs (rw long (within c).analog_outputs)

pub returns-then-fresh_analogs-clause-view : goal.returns-then-fresh_analogs-clause-view
returns-then-fresh_analogs-clause-view c =
    let t = (goal.at.returns-then-fresh_analogs-clause-view c).Then-limits_ok in
    let xs = c.args.setups.now in
    rw c.fresh_head.ensures
    (good c.args.s c.args.classes.now xs _ _ _ (kept t) (binaries-ok c) (outputs-ok c) (analogs-ok c) (counted t)
    (c.fresh_binaries.ensures.1 c.if-fresh_binaries.true) (rw c.from.ensures at (c.fresh_outputs.ensures.1 c.if-fresh_outputs.true))
    (whole-front fresh_analog_of xs _ _ (c.fresh_analogs.ensures.1 c.if-fresh_analogs.true)))

pub returns-then-fresh_analogs-clause-answer : goal.returns-then-fresh_analogs-clause-answer
returns-then-fresh_analogs-clause-answer c =
    let t = (goal.at.returns-then-fresh_analogs-clause-answer c).Then-limits_ok in
    rw (c.fresh_head.ensures, right c.args.s c.args.classes.now c.args.setups.now (kept t) (binaries-ok c) (outputs-ok c) (analogs-ok c))

pub returns-then-fresh_analogs-clause-words : goal.returns-then-fresh_analogs-clause-words
returns-then-fresh_analogs-clause-words c =
    let t = (goal.at.returns-then-fresh_analogs-clause-words c).Then-limits_ok in
    let s = c.args.s in
    let xs = c.args.setups.now in
    fresh-front s c.args.classes.now xs (front s c.args.classes.now xs (kept t) (binaries-ok c) (outputs-ok c)) _ _ _ _ (counted t)
    (c.fresh_binaries.ensures.1 c.if-fresh_binaries.true) (rw c.from.ensures at (c.fresh_outputs.ensures.1 c.if-fresh_outputs.true))
    (λ _. c.fresh_analogs.ensures.1 c.if-fresh_analogs.true) c.fresh_analogs.ensures.2

-- a part is not: the setup breaks a limit
no : (c : After-no_outstation) → setup_ok (setup_of c.args.s c.args.classes.now c.args.setups.now) ≡ false
no c =
    let s = c.args.s in
    let cs = c.args.classes.now in
    let xs = c.args.setups.now in
    whole s cs xs
    ∙ elim c.if-limits_ok.branch [
      | then-limits_ok+else-fresh_binaries w ↦
          let l : limits s cs xs ≡ true = sym c.limits_ok.ensures ∙ w.if-limits_ok.true in
          elim w.else-fresh_binaries.branch [
            | else-fresh_binaries-via-then-fresh_binaries+then-fresh_outputs+else-fresh_analogs v ↦ rw (l, sym w.fresh_binaries.ensures.0 ∙ v.if-fresh_binaries.true, rw w.from.ensures at (sym v.fresh_outputs.ensures.0 ∙ v.if-fresh_outputs.true), sym v.fresh_analogs.ensures.0 ∙ v.if-fresh_analogs.false)
            | else-fresh_binaries-via-then-fresh_binaries+else-fresh_outputs v ↦ rw (l, sym w.fresh_binaries.ensures.0 ∙ v.if-fresh_binaries.true, rw w.from.ensures at (sym v.fresh_outputs.ensures.0 ∙ v.if-fresh_outputs.false))
            | else-fresh_binaries-via-else-fresh_binaries v ↦ rw (l, sym w.fresh_binaries.ensures.0 ∙ v.if-fresh_binaries.false)
          ]
      | else-limits_ok w ↦ rw (sym c.limits_ok.ensures ∙ w.if-limits_ok.false)
    ]

pub returns-clause-view : goal.returns-clause-view
returns-clause-view c = rw c.no_outstation.ensures (broken c.args.s c.args.classes.now c.args.setups.now _ _ _ (no c))

pub returns-clause-answer : goal.returns-clause-answer
returns-clause-answer c = rw (c.no_outstation.ensures, no c)

pub returns-clause-words : goal.returns-clause-words
returns-clause-words c =
    let s = c.args.s in
    let cs = c.args.classes.now in
    let xs = c.args.setups.now in
    let long : length s.analog_outputs ≡ 16 = search (length-mapped, rules) in
    elim c.if-limits_ok.branch [
      | then-limits_ok+else-fresh_binaries w ↦
          let l : limits s cs xs ≡ true = sym c.limits_ok.ensures ∙ w.if-limits_ok.true in
          elim w.else-fresh_binaries.branch [
            | else-fresh_binaries-via-then-fresh_binaries+then-fresh_outputs+else-fresh_analogs v ↦
                let b : all (map class_ok cs) ≡ true = sym w.fresh_binaries.ensures.0 ∙ v.if-fresh_binaries.true in
                let o : all (map given_ok (outputs_counted s)) ≡ true = rw w.from.ensures at (sym v.fresh_outputs.ensures.0 ∙ v.if-fresh_outputs.true) in
                rw (w.binaries-is, w.analogs-is, v.analogs-is, w.outputs-is, v.outputs-is)
                (fresh-front s cs xs (front s cs xs l b o) _ _ _ _ (length-take-le s.analog_output_count s.analog_outputs (rw long (bounds _ l).analog_outputs))
                (w.fresh_binaries.ensures.1 v.if-fresh_binaries.true) (rw w.from.ensures at (v.fresh_outputs.ensures.1 v.if-fresh_outputs.true))
                (λ h. absurd (false≢true (sym (no c) ∙ h))) v.fresh_analogs.ensures.2)
            | else-fresh_binaries-via-then-fresh_binaries+else-fresh_outputs v ↦
                let f : front_ok s cs (length xs) ≡ false =
                front-whole s cs xs ∙ rw (l, sym w.fresh_binaries.ensures.0 ∙ v.if-fresh_binaries.true, rw w.from.ensures at (sym v.fresh_outputs.ensures.0 ∙ v.if-fresh_outputs.false)) in
                rw (w.analogs-is, v.analogs-is) (fresh-none s cs xs f (no c) _ _ _)
            | else-fresh_binaries-via-else-fresh_binaries v ↦
                let f : front_ok s cs (length xs) ≡ false = front-whole s cs xs ∙ rw (l, sym w.fresh_binaries.ensures.0 ∙ v.if-fresh_binaries.false) in
                rw (w.analogs-is, v.analogs-is) (fresh-none s cs xs f (no c) _ _ _)
          ]
      | else-limits_ok w ↦
          let f : front_ok s cs (length xs) ≡ false = front-whole s cs xs ∙ rw (sym c.limits_ok.ensures ∙ w.if-limits_ok.false) in
          rw w.analogs-is (fresh-none s cs xs f (no c) _ _ _)
    ]
