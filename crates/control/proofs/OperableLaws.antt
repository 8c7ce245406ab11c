-- An object with status 0 is operable, and the other way round; so are all of a request whose statuses are all 0, and those that direct
-- operation carries out.
-- Assumes nothing.
use mathlib.Core.Path.{◌≡◌, refl, ap, ◌∙◌}
use mathlib.Core.Bool.{Bool, true, false, not, ◌&&◌, ◌||◌}
use mathlib.Core.List.{List, [], ◌∷◌}
use Prim.Native.Nat.{ℕ, ◌≤◌}
use native.Mathlib.Omega.{arith}
use borrow.Author.Tests.{ltb-true, ltb-false, eqb-true, eqb-false, not-true, not-false, lt-ltb, le-ltb, eq-eqb, ne_eqb}
use lib.Dec.{ltb, eqb}
use lib.ListN.{length, get_or}
use Rattle.laws.specs.First.{first, ◌⇒◌}
use Rattle.laws.specs.Lists.{member}
use Rattle.laws.proofs.AllLaws.{all-four}
use Rattle.laws.proofs.Choices.{by}
use Rattle.points.specs.declared.Value.{Value}
use Rattle.analog_outputs.specs.declared.AnalogOutput.{AnalogOutput}
use Rattle.analog_outputs.specs.Output.{takes}
use Rattle.analog_outputs.specs.OutputWords.{no_output}
use Rattle.control.specs.declared.Crob.{Crob}
use Rattle.control.specs.declared.Command.{Command}
use Rattle.control.specs.declared.Command.TheVariants as C
use Rattle.control.specs.declared.ControlObject.{ControlObject}
use Rattle.control.specs.Status.{
  Outputs,
  known_code,
  is_pulse,
  on_time_max,
  wrong_pulse,
  relay_can,
  analog_can,
  can_do,
  status_of,
  statuses,
  all_zero,
  chosen,
}
use Rattle.control.specs.Operable.{RelayOperable, AnalogOperable, CommandOperable, Operable, AllOperable}
use Rattle.control.proofs.StatusLaws.{undisturbed}

both : (a b : Bool) → (a && b) ≡ true → (a ≡ true) × (b ≡ true)
both true true h = (refl, refl)
both true false h = let x : ◌≡◌ {A = ℕ} 0 1 = cc in absurd (omega arith)
both false b h = let x : ◌≡◌ {A = ℕ} 0 1 = cc in absurd (omega arith)

-- ---- what can be done

-- a pulse that is not wrong
not-wrong : (p z l : Bool) → (p && (z || l)) ≡ false → p ≡ true → (z ≡ false) × (l ≡ false)
not-wrong true true l h k = let x : ◌≡◌ {A = ℕ} 0 1 = cc in absurd (omega arith)
not-wrong true false true h k = let x : ◌≡◌ {A = ℕ} 0 1 = cc in absurd (omega arith)
not-wrong true false false h k = (refl, refl)
not-wrong false z l h k = let x : ◌≡◌ {A = ℕ} 0 1 = cc in absurd (omega arith)

at_least_one : (t : ℕ) → (t ≡ 0 → ⊥) → 1 ≤ t
at_least_one t h = omega arith

relay-operable : (relays index : ℕ) (c : Crob) → relay_can relays index c ≡ true → RelayOperable relays index c
relay-operable relays index c h =
    let f = all-four (ltb index relays) (known_code c.code) (eqb c.count 1) (not (wrong_pulse c.code c.on_time)) h in
    let p = not-wrong (is_pulse c.code) (eqb c.on_time 0) (ltb on_time_max c.on_time) (not-true _ f.3) in
    record {
      output = ltb-true _ _ f.0;
      code = f.1;
      count = eqb-true _ _ f.2;
      shortest = λ t. at_least_one _ (eqb-false _ _ (p t).0);
      longest = λ t. ltb-false _ _ (p t).1;
    }

not_none : (t : ℕ) → 1 ≤ t → t ≡ 0 → ⊥
not_none t h e = omega arith

wrong-no : (c : Crob) → (is_pulse c.code ≡ true → 1 ≤ c.on_time) → (is_pulse c.code ≡ true → c.on_time ≤ on_time_max)
    → wrong_pulse c.code c.on_time ≡ false
wrong-no c s l =
    by (is_pulse c.code)
    (λ t. let low = s t in rw (t, ne_eqb c.on_time 0 (not_none _ low), le-ltb on_time_max c.on_time (l t)))
    (λ t. rw t)

operable-relay : (relays index : ℕ) (c : Crob) → RelayOperable relays index c → relay_can relays index c ≡ true
operable-relay relays index c o =
    rw (lt-ltb _ _ o.output, o.code, eq-eqb _ _ o.count, wrong-no c o.shortest o.longest)

analog-operable : (outputs : List AnalogOutput) (index : ℕ) (v : Value) → analog_can outputs index v ≡ true → AnalogOperable outputs index v
analog-operable outputs index v h =
    let f = both (ltb index (length outputs)) (takes (get_or outputs index no_output) v && true) h in
    record { output = ltb-true _ _ f.0; value = (both _ true f.1).0 }

operable-analog : (outputs : List AnalogOutput) (index : ℕ) (v : Value) → AnalogOperable outputs index v → analog_can outputs index v ≡ true
operable-analog outputs index v o = rw (lt-ltb _ _ o.output, o.value)

can-operable : (u : Outputs) (index : ℕ) (c : Command) → can_do u index c ≡ true → CommandOperable u index c
can-operable u index (C.Crob c) h = relay-operable u.relays index c h
can-operable u index (C.AnalogOutput v) h = analog-operable u.analog index v h

operable-can : (u : Outputs) (index : ℕ) (c : Command) → CommandOperable u index c → can_do u index c ≡ true
operable-can u index (C.Crob c) o = operable-relay u.relays index c o
operable-can u index (C.AnalogOutput v) o = operable-analog u.analog index v o

-- ---- status 0

-- tests in order that give 0 have all failed
all-failed : (a b g : Bool) → ◌≡◌ {A = ℕ} (first (a ⇒ 3 ∷ b ⇒ 4 ∷ g ⇒ 8 ∷ []) 0) 0 → (a ≡ false) × (b ≡ false)
all-failed true b g h = absurd (omega arith)
all-failed false true g h = absurd (omega arith)
all-failed false false g h = (refl, refl)

pub zero-operable : (u : Outputs) (again : Bool) (c : ControlObject) → status_of u again c ≡ 0 → Operable u c
zero-operable u again c h =
    let f = all-failed (not (eqb c.status 0)) (not (can_do u c.index c.command)) again h in
    record {
      status = eqb-true _ _ (not-false _ f.0);
      command = can-operable u c.index c.command (not-false _ f.1);
    }

-- and the other way, where the index is not already in the request
pub operable-zero : (u : Outputs) (c : ControlObject) → Operable u c → status_of u false c ≡ 0
operable-zero u c o =
    undisturbed u false c o.status
    ∙ ap (λ (t : Bool). first (not t ⇒ 4 ∷ false ⇒ 8 ∷ []) 0) (operable-can u c.index c.command o.command)

-- ---- the objects of a request

pub zeros-operable : (u : Outputs) (earlier : List ℕ) (cs : List ControlObject) → all_zero (statuses u earlier cs) ≡ true → AllOperable u cs
unfolding statuses all_zero
zeros-operable u earlier [] h = tt
zeros-operable u earlier (c ∷ cs) h =
    let b = both (eqb (status_of u (member c.index earlier) c) 0) (all_zero (statuses u (c.index ∷ earlier) cs)) h in
    (zero-operable u (member c.index earlier) c (eqb-true _ _ b.0), zeros-operable u (c.index ∷ earlier) cs b.1)

-- "Direct operation carries out those with 0"
pub chosen-operable : (u : Outputs) (earlier : List ℕ) (cs : List ControlObject) → AllOperable u (chosen cs (statuses u earlier cs))
unfolding statuses chosen
chosen-operable u earlier [] = tt
chosen-operable u earlier (c ∷ cs) =
    by (eqb (status_of u (member c.index earlier) c) 0)
    (λ t. rw t (zero-operable u (member c.index earlier) c (eqb-true _ _ t), chosen-operable u (c.index ∷ earlier) cs))
    (λ t. rw t (chosen-operable u (c.index ∷ earlier) cs))
