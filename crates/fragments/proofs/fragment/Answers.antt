-- `fragments::fragment` meets its contract.
-- Assumes nothing.
use mathlib.Core.Path.{◌≡◌, sym, ap, ◌∙◌}
use Rattle.std.specs.Prelude.{Some}
use mathlib.Core.Bool.{false}
use borrow.Author.Tests.{lt-ltb, le-ltb}
use lib.Dec.{ltb}
use lib.ListN.{length}
use Rattle.laws.specs.Limits.{fragment_max}
use Rattle.outstation.specs.Readings.{bad_time}
use Rattle.outstation.specs.OutstationView.{OutstationView}
use Rattle.fragments.specs.declared.FragmentRefusal.TheVariants as R
use Rattle.fragments.proofs.AskLaws.{fragment-late, fragment-small, fragment-malformed, fragment-confirm, fragment-request}
use Rattle.outstation.specs.Lent.{Lent, Outstation, view_of}
use Rattle.fragments.specs.FragmentMeets.{FragmentMeets, answered_by}
use Rattle.fragments.proofs.PartLaws.{given-in, refused-in}
use Rattle.fragments.proofs.fragment.Goals as goal
use Rattle.fragments.proofs.fragment.Goals.{After-classify, Start}

-- the memory and the state at entry
abbrev mem : Start → Lent
mem s =
    let a = s.args in
    record { binaries = a.binaries.now; analogs = a.analogs.now; held = a.held.now; request = a.request.now; answer = a.answer.now; objects = a.objects.now; outputs = a.outputs.now }

abbrev unit : Start → Outstation
unit s = record { head = s.args.h; lent = mem s }

abbrev was : Start → OutstationView
was s = view_of s.args.h (mem s)

-- a fragment that is classified is in time and has room for its answer
module _ (c : After-classify) where
  abbrev start : Start
  start = (goal.at.After-classify c).Start

  in-time : bad_time start.args.h.clock start.args.time ≡ false
  in-time = sym c.bad_time.ensures ∙ c.if-bad_time.false

  roomy : ltb (length start.args.out.now) fragment_max ≡ false
  roomy = le-ltb _ _ c.if-out-lt-FRAGMENT_MAX.false

pub returns-then-bad_time : goal.returns-then-bad_time
returns-then-bad_time c =
    let a = c.args in
    fragment-late (was (goal.at.returns-then-bad_time c).Start) a.time a.f.now (length a.out.now) (FragmentMeets (unit (goal.at.returns-then-bad_time c).Start) (answered_by c.refuse.result (mem (goal.at.returns-then-bad_time c).Start)) a.out.now a.out.now)
    (sym c.bad_time.ensures ∙ c.if-bad_time.true)
    (given-in a.h (mem (goal.at.returns-then-bad_time c).Start) (mem (goal.at.returns-then-bad_time c).Start) c.refuse.result a.out.now a.out.now _
    (refused-in c.refuse.result a.h R.Time c.refuse.ensures.0 c.refuse.ensures.1 c.refuse.ensures.2 (mem (goal.at.returns-then-bad_time c).Start) a.out.now))

pub returns-then-out-lt-FRAGMENT_MAX : goal.returns-then-out-lt-FRAGMENT_MAX
returns-then-out-lt-FRAGMENT_MAX c =
    let a = c.args in
    fragment-small (was (goal.at.returns-then-out-lt-FRAGMENT_MAX c).Start) a.time a.f.now (length a.out.now) (FragmentMeets (unit (goal.at.returns-then-out-lt-FRAGMENT_MAX c).Start) (answered_by c.refuse-then-out-lt-FRAGMENT_MAX.result (mem (goal.at.returns-then-out-lt-FRAGMENT_MAX c).Start)) a.out.now a.out.now)
    (sym c.bad_time.ensures ∙ c.if-bad_time.false) (lt-ltb _ _ c.if-out-lt-FRAGMENT_MAX.true)
    (given-in a.h (mem (goal.at.returns-then-out-lt-FRAGMENT_MAX c).Start) (mem (goal.at.returns-then-out-lt-FRAGMENT_MAX c).Start) c.refuse-then-out-lt-FRAGMENT_MAX.result a.out.now a.out.now _
    (refused-in c.refuse-then-out-lt-FRAGMENT_MAX.result a.h R.OutputTooSmall c.refuse-then-out-lt-FRAGMENT_MAX.ensures.0 c.refuse-then-out-lt-FRAGMENT_MAX.ensures.1 c.refuse-then-out-lt-FRAGMENT_MAX.ensures.2 (mem (goal.at.returns-then-out-lt-FRAGMENT_MAX c).Start) a.out.now))

pub returns-in_default : goal.returns-in_default
returns-in_default c =
    let s = start (goal.at.returns-in_default c).After-classify in
    let a = s.args in
    fragment-malformed (was s) a.time a.f.now (length a.out.now) (FragmentMeets (unit s) (answered_by c.refuse-in_default.result (mem s)) a.out.now a.out.now)
    (in-time (goal.at.returns-in_default c).After-classify) (roomy (goal.at.returns-in_default c).After-classify) c.classify.result c.classify.ensures c.in_default.is
    (given-in a.h (mem s) (mem s) c.refuse-in_default.result a.out.now a.out.now _
    (refused-in c.refuse-in_default.result a.h R.Malformed c.refuse-in_default.ensures.0 c.refuse-in_default.ensures.1 c.refuse-in_default.ensures.2 (mem s) a.out.now))

pub returns-in-Confirm : goal.returns-in-Confirm
returns-in-Confirm c =
    let s = start (goal.at.returns-in-Confirm c).After-classify in
    let a = s.args in
    fragment-confirm (was s) a.time a.f.now (length a.out.now) (FragmentMeets (unit s) (answered_by c.take_confirm.result _) a.out.now a.out.now)
    (in-time (goal.at.returns-in-Confirm c).After-classify) (roomy (goal.at.returns-in-Confirm c).After-classify) c.classify.result c.classify.ensures c.in-Confirm.sequence c.in-Confirm.unsolicited (c.in-Some.is ∙ ap Some c.in-Confirm.is) (given-in a.h (mem s) _ c.take_confirm.result a.out.now a.out.now _ (c.take_confirm.ensures (mem s) a.out.now))

pub returns-in-Request : goal.returns-in-Request
returns-in-Request c =
    let s = start (goal.at.returns-in-Request c).After-classify in
    let a = s.args in
    let r = c.take_request in
    fragment-request (was s) a.time a.f.now (length a.out.now) (FragmentMeets (unit s) (answered_by r.result _) a.out.now _)
    (in-time (goal.at.returns-in-Request c).After-classify) (roomy (goal.at.returns-in-Request c).After-classify) c.classify.result c.classify.ensures c.in-Request.sequence c.in-Request.function (c.in-Some.is ∙ ap Some c.in-Request.is) (given-in a.h (mem s) _ r.result a.out.now _ _ r.ensures)
