-- What a restart comes to: its parts are good and stored, or one breaks a limit.
-- Assumes nothing.
use mathlib.Core.Path.{◌≡◌, refl, sym, ap, ◌∙◌}
use native.Mathlib.Omega.{arith}
use mathlib.Core.Bool.{Bool, true, false, false≢true, ◌&&◌}
use mathlib.Core.List.{List, [], ◌++◌, map}
use Prim.Native.Nat.{ℕ}
use lib.ListN.{length, take, drop}
use Rattle.laws.specs.Lists.{all}
use Rattle.points.specs.Setup.{class_ok, fresh_binary}
use Rattle.analog_outputs.specs.OutputWords.{output_given, outputs_in}
use Rattle.outstation.specs.Setup.{setup_ok}
use Rattle.point_store.specs.PointWords.{binaries_in, analogs_in}
use Rattle.restart.specs.declared.SetupWords.{SetupWords}
use Rattle.restart.specs.declared.AnalogSetupWords.{AnalogSetupWords}
use Rattle.restart.specs.Restart.{setup_with, setup_of, front_ok, given_ok, analog_given_ok, fresh_analog_of, fresh_head, RestartHolds, Fresh}
use Rattle.restart.proofs.SetupLaws.{front-is, setup-and, outputs_counted, counted-ok, counted-stored, few-classes, few-analogs, few-given, fresh-view, bare-view, fresh-counted}

module _ (s : SetupWords) (classes : List ℕ) (xs : List AnalogSetupWords) where
  -- the tests of numbers
  abbrev pub limits : Bool
  limits = setup_ok (setup_with s (length classes) [] (length xs) [] [])

  -- all but the analogs, in the order in which a restart tests the parts
  pub front-whole : front_ok s classes (length xs) ≡ ((limits && all (map class_ok classes)) && all (map given_ok (outputs_counted s)))
  front-whole = front-is s classes (length xs) ∙ ap (λ (b : Bool). (limits && all (map class_ok classes)) && b) (sym (counted-ok s))

  -- all of them
  pub whole : setup_ok (setup_of s classes xs)
      ≡ (((limits && all (map class_ok classes)) && all (map given_ok (outputs_counted s))) && all (map analog_given_ok xs))
  whole = setup-and s classes xs ∙ ap (λ (b : Bool). b && all (map analog_given_ok xs)) front-whole

  -- all but the analogs keeps the limits, and is stored
  pub fresh-front : front_ok s classes (length xs) ≡ true → (bs qs ps os : List ℕ) → length (outputs_counted s) ≡ s.analog_output_count
      → take (length classes) (binaries_in bs) ≡ map fresh_binary classes → take (length (outputs_counted s)) (outputs_in os) ≡ map output_given (outputs_counted s)
      → (setup_ok (setup_of s classes xs) ≡ true → analogs_in ps ≡ map fresh_analog_of xs ++ drop (length xs) (analogs_in qs)) → (length xs ≡ 0 → ps ≡ qs) → Fresh s classes xs bs qs ps os
  fresh-front f bs qs ps os few b q p z =
      record { binaries = λ _. b; outputs = λ _. counted-stored s (outputs_in os) few q; analogs = p; untouched = λ h. absurd (false≢true (sym h ∙ f)); unlent = z }

  -- it breaks a limit
  pub fresh-none : front_ok s classes (length xs) ≡ false → setup_ok (setup_of s classes xs) ≡ false → (bs ps os : List ℕ) → Fresh s classes xs bs ps ps os
  fresh-none f wrong bs ps os =
      record {
        binaries = λ h. absurd (false≢true (sym f ∙ h));
        outputs = λ h. absurd (false≢true (sym f ∙ h));
        analogs = λ h. absurd (false≢true (sym wrong ∙ h));
        untouched = λ _. refl;
        unlent = λ _. refl;
      }

  -- all parts are good
  module _ (l : limits ≡ true) (c : all (map class_ok classes) ≡ true) (o : all (map given_ok (outputs_counted s)) ≡ true) where
    pub front : front_ok s classes (length xs) ≡ true
    front = front-whole ∙ rw (l, c, o)

    pub right : all (map analog_given_ok xs) ≡ true → setup_ok (setup_of s classes xs) ≡ true
    right a = whole ∙ rw (l, c, o, a)

  module _ (bs ps os : List ℕ) where
    -- one breaks a limit
    pub broken : setup_ok (setup_of s classes xs) ≡ false → RestartHolds s classes xs 5 (fresh_head 0 0 0 0 0 0) bs ps os
    broken e =
        record {
          answer = rw e;
          state = λ m. rw e (bare-view bs ps os m);
          counted = λ m. fresh-counted 0 0 0 0 0 0 (omega arith) (omega arith) (omega arith);
        }

    -- all are good, and stored
    module _ (l : limits ≡ true) (c : all (map class_ok classes) ≡ true) (o : all (map given_ok (outputs_counted s)) ≡ true) (a : all (map analog_given_ok xs) ≡ true) where
      pub good : length (outputs_counted s) ≡ s.analog_output_count → take (length classes) (binaries_in bs) ≡ map fresh_binary classes
          → take (length (outputs_counted s)) (outputs_in os) ≡ map output_given (outputs_counted s) → take (length xs) (analogs_in ps) ≡ map fresh_analog_of xs
          → RestartHolds s classes xs 0 (fresh_head s.arm_time s.confirm_time s.outputs s.analog_output_count (length classes) (length xs)) bs ps os
      good few b q p =
          record {
            answer = rw (right l c o a);
            state = λ m. rw (right l c o a) (fresh-view s classes xs bs ps os m b p (counted-stored s (outputs_in os) few q));
            counted =
                λ m.
                fresh-counted s.arm_time s.confirm_time s.outputs s.analog_output_count (length classes) (length xs)
                (few-given s classes (length xs) (front l c o)) (few-classes s classes (length xs) (front l c o)) (few-analogs s classes (length xs) (front l c o));
          }
