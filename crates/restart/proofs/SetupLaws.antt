-- Laws of a setup in numbers: its limits part by part, its analog outputs, and the view that a restart gives.
-- Assumes nothing.
use mathlib.Core.Path.{◌≡◌, refl, sym, ap, ◌∙◌}
use mathlib.Core.Bool.{Bool, true, false, not, ◌&&◌}
use mathlib.Core.List.{List, [], ◌∷◌, ◌++◌, map}
use Prim.Native.Nat.{ℕ, ◌≤◌}
use native.Mathlib.Omega.{arith}
use lib.Dec.{leb, eqb}
use lib.ListN.{length, length-map, take}
use lib.Seq.{take-nil, take-length}
use Rattle.laws.specs.Lists.{all}
use Rattle.laws.specs.Limits.{points_max, outputs_max, address_max, arm_time_max, confirm_time_max}
use Rattle.laws.proofs.Filling.{map-take}
use Rattle.points.specs.declared.AnalogSetup.{AnalogSetup}
use Rattle.points.specs.Setup.{class_ok, analog_ok, fresh_binary, fresh_analog}
use Rattle.points.specs.PointsView.{points_view}
use Rattle.analog_outputs.specs.declared.AnalogOutput.{AnalogOutput}
use Rattle.analog_outputs.specs.declared.AnalogOutputWords.{AnalogOutputWords}
use Rattle.analog_outputs.specs.Output.{analog_outputs_max, output_ok}
use Rattle.analog_outputs.specs.OutputWords.{output_given, outputs_in}
use Rattle.events.specs.BufferView.{buffer_view}
use Rattle.select_latch.specs.Select.{latch_of}
use Rattle.last_request.specs.Repeat.{last_in}
use Rattle.outstation.specs.Setup.{setup_ok, binary_classes, analog_setups, analog_outputs}
use Rattle.outstation.specs.OutstationView.{restarted, bare_setup, fresh_session}
use Rattle.outstation.proofs.SetupLaws.{bounds}
use Rattle.point_store.specs.PointWords.{binaries_in, analogs_in}
use Rattle.outstation.specs.Lent.{Lent, HeadCountsWithin, view_of, wait_of, with_words, with_outputs}
use Rattle.restart.specs.declared.SetupWords.{SetupWords}
use Rattle.restart.specs.declared.AnalogSetupWords.{AnalogSetupWords}
use Rattle.restart.specs.Restart.{analog_setup_of, outputs_given, setup_with, setup_of, front_ok, given_ok, fresh_head}

-- ---- the limits

-- the tests of numbers
abbrev numbers : SetupWords → (n m : ℕ) → List Bool
numbers s n m =
    leb n points_max ∷ leb m points_max ∷ leb s.outputs outputs_max ∷ leb s.analog_output_count analog_outputs_max ∷ leb s.own address_max
    ∷ leb s.master address_max ∷ not (eqb s.own s.master) ∷ leb s.arm_time arm_time_max ∷ leb 1 s.confirm_time
    ∷ leb s.confirm_time confirm_time_max ∷ []

either_way : (a b : Bool) → (a && b) ≡ (b && a)
either_way true true = refl
either_way true false = refl
either_way false true = refl
either_way false false = refl

-- one of the tests taken out
one_out : (ts : List Bool) (c : Bool) (us : List Bool) → all (ts ++ (c ∷ us)) ≡ (all (ts ++ (true ∷ us)) && c)
one_out [] c us = either_way c (all us)
one_out (true ∷ ts) c us = one_out ts c us
one_out (false ∷ ts) c us = refl

-- whether the binaries, the analogs, the analog outputs are good
abbrev classes_ok : List ℕ → Bool
classes_ok l = all (map class_ok l)

abbrev analogs_ok : List AnalogSetup → Bool
analogs_ok l = all (map analog_ok l)

abbrev outputs_ok : List AnalogOutput → Bool
outputs_ok l = all (map output_ok l)

module _ (s : SetupWords) (n : ℕ) (classes : List ℕ) (m : ℕ) where
  abbrev count : ℕ
  count = s.analog_output_count

  abbrev front : List Bool
  front = numbers s n m ++ (classes_ok (take n classes) ∷ [])

  -- all but the analogs, and these
  pub front-and : (analogs : List AnalogSetup) (outputs : List AnalogOutput)
      → setup_ok (setup_with s n classes m analogs outputs) ≡ (setup_ok (setup_with s n classes m [] outputs) && all (map analog_ok (take m analogs)))
  unfolding setup_ok binary_classes analog_setups analog_outputs
  front-and analogs outputs =
      one_out front (analogs_ok (take m analogs)) (outputs_ok (take count outputs) ∷ [])
      ∙ ap (λ (l : List AnalogSetup). all (front ++ (analogs_ok l ∷ outputs_ok (take count outputs) ∷ [])) && analogs_ok (take m analogs)) (sym (take-nil m))

  -- all but the analog outputs, and these
  outputs-and : (outputs : List AnalogOutput)
      → setup_ok (setup_with s n classes m [] outputs) ≡ (setup_ok (setup_with s n classes m [] []) && all (map output_ok (take count outputs)))
  unfolding setup_ok binary_classes analog_setups analog_outputs
  outputs-and outputs =
      one_out (front ++ (analogs_ok (take m []) ∷ [])) (outputs_ok (take count outputs)) []
      ∙ ap (λ (l : List AnalogOutput). all (front ++ (analogs_ok (take m []) ∷ outputs_ok l ∷ [])) && outputs_ok (take count outputs)) (sym (take-nil count))

  -- all but the classes, and these
  limits-and : setup_ok (setup_with s n classes m [] []) ≡ (setup_ok (setup_with s n [] m [] []) && all (map class_ok (take n classes)))
  unfolding setup_ok binary_classes analog_setups analog_outputs
  limits-and =
      one_out (numbers s n m) (classes_ok (take n classes)) (analogs_ok (take m []) ∷ outputs_ok (take count []) ∷ [])
      ∙ ap (λ (l : List ℕ). all (numbers s n m ++ (classes_ok l ∷ analogs_ok (take m []) ∷ outputs_ok (take count []) ∷ [])) && classes_ok (take n classes)) (sym (take-nil n))

-- what all but the analogs is: the limits, the classes, the analog outputs
pub front-is : (s : SetupWords) (classes : List ℕ) (m : ℕ)
    → front_ok s classes m ≡ ((setup_ok (setup_with s (length classes) [] m [] []) && all (map class_ok classes)) && all (map output_ok (take s.analog_output_count (outputs_given s))))
front-is s classes m =
    outputs-and s (length classes) classes m (outputs_given s)
    ∙ ap (λ (b : Bool). b && outputs_ok (take s.analog_output_count (outputs_given s)))
    (limits-and s (length classes) classes m ∙ ap (λ (l : List ℕ). setup_ok (setup_with s (length classes) [] m [] []) && classes_ok l) (take-length classes))

-- how many points and analog outputs there are at most
module _ (s : SetupWords) (classes : List ℕ) (m : ℕ) (h : front_ok s classes m ≡ true) where
  pub few-classes : length classes ≤ points_max
  few-classes = (bounds (setup_with s (length classes) classes m [] (outputs_given s)) h).binaries

  pub few-analogs : m ≤ points_max
  few-analogs = (bounds (setup_with s (length classes) classes m [] (outputs_given s)) h).analogs

  pub few-given : s.analog_output_count ≤ analog_outputs_max
  few-given = (bounds (setup_with s (length classes) classes m [] (outputs_given s)) h).analog_outputs

-- ---- the view

map-map : {A B C : Type 0} (f : A → B) (g : B → C) (l : List A) → map g (map f l) ≡ map (λ x. g (f x)) l
map-map f g [] = refl
map-map f g (x ∷ l) = λ k. g (f x) ∷ map-map f g l k

-- the analog outputs that count, as numbers
module _ (s : SetupWords) where
  abbrev pub outputs_counted : List AnalogOutputWords
  outputs_counted = take s.analog_output_count s.analog_outputs

  pub counted-ok : all (map given_ok outputs_counted) ≡ all (map output_ok (take s.analog_output_count (outputs_given s)))
  counted-ok =
      sym (ap all (map-map output_given output_ok outputs_counted)) ∙ ap (λ (l : List AnalogOutput). all (map output_ok l)) (sym (map-take output_given s.analog_output_count s.analog_outputs))

  pub counted-stored : (out : List AnalogOutput) → length outputs_counted ≡ s.analog_output_count → take (length outputs_counted) out ≡ map output_given outputs_counted
      → take s.analog_output_count out ≡ take s.analog_output_count (outputs_given s)
  counted-stored out few e =
      ap (λ (k : ℕ). take k out) (sym few) ∙ e ∙ sym (map-take output_given s.analog_output_count s.analog_outputs)

module _ (s : SetupWords) (classes : List ℕ) (setups : List AnalogSetupWords) where
  all-taken : take (length setups) (map analog_setup_of setups) ≡ map analog_setup_of setups
  all-taken = ap (λ (k : ℕ). take k (map analog_setup_of setups)) (sym (length-map setups analog_setup_of)) ∙ take-length (map analog_setup_of setups)

  pub setup-and : setup_ok (setup_of s classes setups) ≡ (front_ok s classes (length setups) && all (map (λ w. analog_ok (analog_setup_of w)) setups))
  setup-and =
      front-and s (length classes) classes (length setups) (map analog_setup_of setups) (outputs_given s)
      ∙ ap (λ (l : List AnalogSetup). front_ok s classes (length setups) && all (map analog_ok l)) all-taken
      ∙ ap (λ (l : List Bool). front_ok s classes (length setups) && all l) (map-map analog_setup_of analog_ok setups)

  pub fresh-view : (bs ps os : List ℕ) (m : Lent) → take (length classes) (binaries_in bs) ≡ map fresh_binary classes
      → take (length setups) (analogs_in ps) ≡ map (λ w. fresh_analog (analog_setup_of w)) setups
      → take s.analog_output_count (outputs_in os) ≡ take s.analog_output_count (outputs_given s)
      → view_of (fresh_head s.arm_time s.confirm_time s.outputs s.analog_output_count (length classes) (length setups))
      (with_words (record { binaries = bs; analogs = ps; held = m.held }) (with_outputs os m))
      ≡ restarted (setup_of s classes setups)
  unfolding restarted points_view buffer_view wait_of last_in latch_of binary_classes analog_setups analog_outputs
  fresh-view bs ps os m b p o =
      λ k.
      record {
        shared =
            record {
              arm_time = s.arm_time;
              confirm_time = s.confirm_time;
              outputs = record { relays = s.outputs; analog = o k };
              clock = 0;
              inputs =
                  record {
                    binaries = (b ∙ ap (map fresh_binary) (sym (take-length classes))) k;
                    analogs = (p ∙ sym (map-map analog_setup_of fresh_analog setups) ∙ ap (map fresh_analog) (sym all-taken)) k;
                  };
            };
        master = record { buffer = record { held = []; overflow = false }; session = fresh_session };
      }

pub bare-view : (bs ps os : List ℕ) (m : Lent)
    → view_of (fresh_head 0 0 0 0 0 0) (with_words (record { binaries = bs; analogs = ps; held = m.held }) (with_outputs os m)) ≡ restarted bare_setup
unfolding restarted points_view buffer_view wait_of last_in latch_of binary_classes analog_setups analog_outputs
bare-view bs ps os m = refl

-- no count passes its array
pub fresh-counted : (arm confirm outputs analog_outputs binaries analogs : ℕ) → analog_outputs ≤ analog_outputs_max → binaries ≤ points_max → analogs ≤ points_max
    → HeadCountsWithin (fresh_head arm confirm outputs analog_outputs binaries analogs)
fresh-counted arm confirm outputs analog_outputs binaries analogs o b a =
    record { binaries = b; analogs = a; events = omega arith; request = omega arith; answer = omega arith; objects = omega arith; outputs = o }
