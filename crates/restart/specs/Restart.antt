-- A setup in numbers, and the head and words that a restart gives. Any numbers stand for a setup.
-- Assumes nothing.
use Rattle.std.specs.Prelude.{ℕ, ◌≡◌, Bool, true, false, cond, List, [], ◌∷◌, ◌++◌, map, eqb, length, take, drop}
use Rattle.std.specs.Float.{binary32}
use Rattle.std.specs.Float.Ieee.{of_bits}
use Rattle.laws.specs.First.{first, ◌⇒◌}
use Rattle.points.specs.declared.AnalogKind.{AnalogKind}
use Rattle.points.specs.declared.AnalogKind.TheVariants as Ks
use Rattle.points.specs.declared.AnalogSetup.{AnalogSetup}
use Rattle.points.specs.declared.AnalogPoint.{AnalogPoint}
use Rattle.points.specs.Setup.{analog_ok, fresh_binary, fresh_analog}
use Rattle.analog_outputs.specs.declared.AnalogOutput.{AnalogOutput}
use Rattle.analog_outputs.specs.declared.AnalogOutputWords.{AnalogOutputWords}
use Rattle.analog_outputs.specs.Output.{output_ok}
use Rattle.analog_outputs.specs.OutputWords.{output_given, outputs_in}
use Rattle.outstation.specs.Setup.{Setup, setup_ok}
use Rattle.outstation.specs.OutstationView.{restarted, bare_setup}
use Rattle.point_store.specs.PointWords.{gate_of, binaries_in, analogs_in}
use Rattle.outstation.specs.declared.Head.{Head}
use Rattle.outstation.specs.Lent.{Lent, with_outputs, outstation_view, CountsWithin, on}
use Rattle.restart.specs.declared.SetupWords.{SetupWords}
use Rattle.restart.specs.declared.AnalogSetupWords.{AnalogSetupWords}
use Rattle.restart.specs.declared.Restarted.{Restarted}

-- kind 0: a 32-bit point; 1: a 16-bit point; any other: a float point
abbrev pub analog_kind_of : AnalogSetupWords → AnalogKind
analog_kind_of w =
    first
    (eqb w.kind 0 ⇒ Ks.Int32 (gate_of w.gate w.limit)
    ∷ eqb w.kind 1 ⇒ Ks.Int16 (gate_of w.gate w.limit)
    ∷ [])
    (Ks.Float32 (gate_of w.gate (of_bits binary32 w.limit)) (record { gain = of_bits binary32 w.gain; offset = of_bits binary32 w.offset }))

unfoldable pub analog_setup_of : AnalogSetupWords → AnalogSetup
analog_setup_of w = record { class = w.class; kind = analog_kind_of w }

-- the analog outputs that it gives, those past its count too
abbrev pub outputs_given : SetupWords → List AnalogOutput
outputs_given s = map output_given s.analog_outputs

-- the setup of s with so many binaries and analogs, the first of these, and these analog outputs
abbrev pub setup_with : SetupWords → ℕ → List ℕ → ℕ → List AnalogSetup → List AnalogOutput → Setup
setup_with s n classes m analogs outputs =
    record {
      own = s.own;
      master = s.master;
      arm_time = s.arm_time;
      confirm_time = s.confirm_time;
      outputs = s.outputs;
      binary_count = n;
      analog_count = m;
      classes = classes;
      analogs = analogs;
      analog_output_count = s.analog_output_count;
      analog_outputs = outputs;
    }

-- the setup that is lent
abbrev pub setup_of : SetupWords → List ℕ → List AnalogSetupWords → Setup
setup_of s classes setups = setup_with s (length classes) classes (length setups) (map analog_setup_of setups) (outputs_given s)

-- all but the analogs
abbrev pub front_ok : SetupWords → List ℕ → ℕ → Bool
front_ok s classes m = setup_ok (setup_with s (length classes) classes m [] (outputs_given s))

-- whether an analog output and an analog input, as given, keep the limits; and the fresh analog
abbrev pub given_ok : AnalogOutputWords → Bool
given_ok w = output_ok (output_given w)

abbrev pub analog_given_ok : AnalogSetupWords → Bool
analog_given_ok w = analog_ok (analog_setup_of w)

abbrev pub fresh_analog_of : AnalogSetupWords → AnalogPoint
fresh_analog_of w = fresh_analog (analog_setup_of w)

-- ---- what it gives

-- IIN1.7 stands, nothing is held, awaited, kept or selected
abbrev pub fresh_head : (arm confirm outputs analog_outputs binaries analogs : ℕ) → Head
fresh_head arm confirm outputs analog_outputs binaries analogs =
    record {
      arm_time = arm;
      confirm_time = confirm;
      clock = 0;
      wait_time = 0;
      latch_time = 0;
      binary_count = binaries;
      analog_count = analogs;
      event_count = 0;
      request_len = 0;
      answer_len = 0;
      latch_len = 0;
      outputs = outputs;
      overflow = 0;
      restarted = 1;
      waiting = 0;
      wait_sequence = 0;
      showed_overflow = 0;
      dropped_since = 0;
      request_kept = 0;
      latch_armed = 0;
      latch_sequence = 0;
      analog_outputs = analog_outputs;
    }

-- of a refused setup
abbrev pub no_outstation : Restarted
no_outstation = record { head = fresh_head 0 0 0 0 0 0; refusal = 5 }

-- a restart with the setup s, classes and setups left the head h, the points' words bs and ps, and the analog outputs' words os
pub record RestartHolds (s : SetupWords) (classes : List ℕ) (setups : List AnalogSetupWords) (refusal : ℕ) (h : Head) (bs ps os : List ℕ) : Type 0 where
  -- 5 exactly when the setup breaks a limit
  pub answer : refusal ≡ cond (setup_ok (setup_of s classes setups)) 0 5
  -- the restarted view, whatever else is lent: of a refused setup the one with no points and no outputs
  pub state : (m : Lent)
      → outstation_view (on h (record { binaries = bs; analogs = ps; held = m.held }) (with_outputs os m))
      ≡ restarted (cond (setup_ok (setup_of s classes setups)) (setup_of s classes setups) bare_setup)
  -- no count passes its array
  pub counted : (m : Lent) → CountsWithin (on h (record { binaries = bs; analogs = ps; held = m.held }) (with_outputs os m))

-- ---- to the letter, where a caller lends words or keeps the head for more than their view

-- the answer, each field of the head
abbrev pub restart_answer : SetupWords → List ℕ → List AnalogSetupWords → Restarted
restart_answer s classes setups =
    cond (setup_ok (setup_of s classes setups))
    (record { head = fresh_head s.arm_time s.confirm_time s.outputs s.analog_output_count (length classes) (length setups); refusal = 0 })
    no_outstation

-- what it says of the words: the binaries and the analog outputs are stored where all but the analogs keeps the limits, be it that an analog then
-- does not; the analogs' words before were qs. Those of a good setup are stored and the ones past them stay; all stay where the analogs' turn does
-- not come, and where there are none
pub record Fresh (s : SetupWords) (classes : List ℕ) (setups : List AnalogSetupWords) (bs qs ps os : List ℕ) : Type 0 where
  pub binaries : front_ok s classes (length setups) ≡ true → take (length classes) (binaries_in bs) ≡ map fresh_binary classes
  pub outputs : front_ok s classes (length setups) ≡ true → take s.analog_output_count (outputs_in os) ≡ take s.analog_output_count (outputs_given s)
  pub analogs : setup_ok (setup_of s classes setups) ≡ true → analogs_in ps ≡ map fresh_analog_of setups ++ drop (length setups) (analogs_in qs)
  pub untouched : front_ok s classes (length setups) ≡ false → ps ≡ qs
  pub unlent : length setups ≡ 0 → ps ≡ qs
