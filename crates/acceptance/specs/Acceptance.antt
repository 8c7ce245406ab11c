-- The acceptance table of document 01, rows a to j, and the five frame sizes, as one statement about the rules.
-- Assumes nothing.
use Rattle.std.specs.Prelude.{ℕ, ◌+◌, ◌-◌, ◌≡◌, true, false, List, [], ◌∷◌, ◌++◌, map, length, replicate}
use Rattle.std.specs.Float.{binary32}
use Rattle.std.specs.Float.Ieee.{of_bits}
use Rattle.laws.specs.Limits.{fragment_max, points_max}
use Rattle.frame.specs.Frame.{frame_size}
use Rattle.points.specs.declared.Gate.TheVariants as G
use Rattle.points.specs.declared.AnalogKind.TheVariants as Ks
use Rattle.points.specs.declared.AnalogSetup.{AnalogSetup}
use Rattle.control.specs.declared.Command.TheVariants as C
use Rattle.control.specs.declared.ControlObject.{ControlObject}
use Rattle.outstation.specs.Setup.{Setup}
use Rattle.outstation.specs.declared.Measured.{Measured}
use Rattle.outstation.specs.declared.Measured.TheVariants as Ms
use Rattle.outstation.specs.Setup.{setup_ok}
use Rattle.outstation.specs.OutstationView.{OutstationView, restarted}
use Rattle.outstation.specs.Step.{Call, reading, fragment, Answer, took, answers, accepts, refuses, step}

-- ---- a run: a list of calls, each on what the one before left

abbrev pub answers_to : List Call → OutstationView → List Answer
answers_to [] w = []
answers_to (c ∷ cs) w = (step c w).answer ∷ answers_to cs (step c w).state

abbrev pub view_after : List Call → OutstationView → OutstationView
view_after [] w = w
view_after (c ∷ cs) w = view_after cs (step c w).state

-- ---- the setups: "16 outputs, arm and confirm times 5,000"

-- so many inputs, the binaries' classes and the analogs
abbrev pub table_setup : (binaries analogs : ℕ) → List ℕ → List AnalogSetup → Setup
table_setup binaries analogs classes kinds =
    record {
      own = 1;
      master = 2;
      arm_time = 5000;
      confirm_time = 5000;
      outputs = 16;
      binary_count = binaries;
      analog_count = analogs;
      classes = classes;
      analogs = kinds;
      analog_output_count = 0;
      analog_outputs = [];
    }

-- a place of the array that is not used
abbrev pub unused : AnalogSetup
unused = record { class = 0; kind = Ks.Int32 G.Never }

-- "4 binaries", "binary 3, class 1"
abbrev pub four_binaries : Setup
four_binaries = table_setup 4 0 (0 ∷ 0 ∷ 0 ∷ 1 ∷ replicate (points_max - 4) 0) (replicate points_max unused)

-- gain 1.0 and offset 0.0
abbrev pub float_point : AnalogSetup
float_point = record { class = 1; kind = Ks.Float32 G.AnyChange (record { gain = of_bits binary32 0x3F800000; offset = of_bits binary32 0 }) }

-- j: "one binary", "one float point"
abbrev pub one_of_each : Setup
one_of_each = table_setup 1 1 (1 ∷ replicate 63 0) (float_point ∷ replicate 63 unused)

-- ---- rows: a call, and the answer that it is to have

pub record TableRow : Type 0 where
  pub call : Call
  pub answer : Answer

-- a fragment at this time, with 2,048 lent bytes
abbrev pub fragment_at : ℕ → List ℕ → Answer → TableRow
fragment_at time bytes answer = record { call = fragment time bytes fragment_max; answer = answer }

-- a reading with flags 01, which is taken
abbrev pub reading_at : ℕ → (point : ℕ) → Measured → TableRow
reading_at time point measured =
    record { call = reading (record { time = time; point = point; measured = measured; flags = 0x01 }); answer = took 1 0 }

-- answered with these bytes, nothing handed to the host
abbrev pub answers_with : List ℕ → Answer
answers_with bytes = answers bytes []

-- from this setup's restart the calls of these rows are answered as the rows say
abbrev pub AnswersAre : Setup → List TableRow → Type 0
AnswersAre u rows = answers_to (map (λ (r : TableRow). r.call) rows) (restarted u) ≡ map (λ (r : TableRow). r.answer) rows

-- the number of events held after these rows
abbrev pub held_count : Setup → List TableRow → ℕ
held_count u rows = length (view_after (map (λ (r : TableRow). r.call) rows) (restarted u)).master.buffer.held

-- ---- the table

-- b. "C0 02 50 01 00 07 07 00 gives C0 81 00 00"
abbrev pub b : TableRow
b = fragment_at 0 (0xC0 ∷ 0x02 ∷ 0x50 ∷ 0x01 ∷ 0x00 ∷ 0x07 ∷ 0x07 ∷ 0x00 ∷ []) (answers_with (0xC0 ∷ 0x81 ∷ 0x00 ∷ 0x00 ∷ []))

-- a to d
abbrev pub to_d : List TableRow
to_d =
    -- a. "fresh: C1 17 gives C1 81 80 01"
    fragment_at 0 (0xC1 ∷ 0x17 ∷ []) (answers_with (0xC1 ∷ 0x81 ∷ 0x80 ∷ 0x01 ∷ []))
    ∷ b
    -- c. "C2 01 3C 02 06, no events: C2 81 00 00"
    ∷ fragment_at 0 (0xC2 ∷ 0x01 ∷ 0x3C ∷ 0x02 ∷ 0x06 ∷ []) (answers_with (0xC2 ∷ 0x81 ∷ 0x00 ∷ 0x00 ∷ []))
    -- d. "binary 3, class 1, off, then on at 1,000, flags 01: C3 01 3C 02 06 gives
    -- E3 81 00 00 02 02 28 01 00 03 00 81 E8 03 00 00 00 00"
    ∷ reading_at 500 3 (Ms.State false)
    ∷ reading_at 1000 3 (Ms.State true)
    ∷ fragment_at 1000 (0xC3 ∷ 0x01 ∷ 0x3C ∷ 0x02 ∷ 0x06 ∷ [])
    (answers_with
    (0xE3 ∷ 0x81 ∷ 0x00 ∷ 0x00
    ∷ 0x02 ∷ 0x02 ∷ 0x28 ∷ 0x01 ∷ 0x00
    ∷ 0x03 ∷ 0x00 ∷ 0x81 ∷ 0xE8 ∷ 0x03 ∷ 0x00 ∷ 0x00 ∷ 0x00 ∷ 0x00 ∷ []))
    ∷ []

-- e. "C4 00: 32"
abbrev pub to_e : List TableRow
to_e = to_d ++ (fragment_at 1000 (0xC4 ∷ 0x00 ∷ []) (refuses 32) ∷ [])

-- f. "C3 00: released"
abbrev pub to_f : List TableRow
to_f = to_e ++ (fragment_at 1000 (0xC3 ∷ 0x00 ∷ []) accepts ∷ [])

-- "0C 01 17 01 05 03 01 and nine 00", the last of them the status
abbrev pub objects : (status : ℕ) → List ℕ
objects status =
    0x0C ∷ 0x01 ∷ 0x17 ∷ 0x01 ∷ 0x05 ∷ 0x03 ∷ 0x01 ∷ 0x00 ∷ 0x00 ∷ 0x00 ∷ 0x00 ∷ 0x00 ∷ 0x00 ∷ 0x00 ∷ 0x00 ∷ status ∷ []

-- the one object as it is handed to the host
abbrev pub output5 : ControlObject
output5 = record { index = 0x05; status = 0x00; command = C.Crob (record { code = 0x03; count = 0x01; on_time = 0; off_time = 0 }) }

-- when g's SELECT comes
abbrev pub select_time : ℕ
select_time = 2000

-- g. "C4 03 0C 01 17 01 05 03 01 and nine 00: C4 81 00 00, then the same objects"
abbrev pub to_g : List TableRow
to_g = to_f ++ (fragment_at select_time (0xC4 ∷ 0x03 ∷ objects 0x00) (answers_with (0xC4 ∷ 0x81 ∷ 0x00 ∷ 0x00 ∷ objects 0x00)) ∷ [])

-- h. "C5 04 with those objects 5,000 later: carried out"
abbrev pub to_h : List TableRow
to_h =
    to_g
    ++ (fragment_at (select_time + 5000) (0xC5 ∷ 0x04 ∷ objects 0x00) (answers (0xC5 ∷ 0x81 ∷ 0x00 ∷ 0x00 ∷ objects 0x00) (output5 ∷ []))
    ∷ [])

-- "5,001: status 01", in place of h's first
abbrev pub late : List TableRow
late = to_g ++ (fragment_at (select_time + 5001) (0xC5 ∷ 0x04 ∷ objects 0x00) (answers_with (0xC5 ∷ 0x81 ∷ 0x00 ∷ 0x00 ∷ objects 0x01)) ∷ [])

-- i. "C6 04 instead: 02", in place of h's first
abbrev pub other_sequence : List TableRow
other_sequence =
    to_g ++ (fragment_at (select_time + 5000) (0xC6 ∷ 0x04 ∷ objects 0x00) (answers_with (0xC6 ∷ 0x81 ∷ 0x00 ∷ 0x00 ∷ objects 0x02)) ∷ [])

-- j. "one binary, on, one float point at 1.0, flags 01: C5 01 3C 01 06 gives
-- C5 81 00 00 01 02 01 00 00 00 00 81 1E 05 01 00 00 00 00 01 00 00 80 3F", "after a restart cleared as in b"
abbrev pub j : List TableRow
j =
    b
    ∷ reading_at 1 0 (Ms.State true)
    ∷ reading_at 1 0 (Ms.Float (of_bits binary32 0x3F800000))
    ∷ fragment_at 1 (0xC5 ∷ 0x01 ∷ 0x3C ∷ 0x01 ∷ 0x06 ∷ [])
    (answers_with
    (0xC5 ∷ 0x81 ∷ 0x00 ∷ 0x00
    ∷ 0x01 ∷ 0x02 ∷ 0x01 ∷ 0x00 ∷ 0x00 ∷ 0x00 ∷ 0x00 ∷ 0x81
    ∷ 0x1E ∷ 0x05 ∷ 0x01 ∷ 0x00 ∷ 0x00 ∷ 0x00 ∷ 0x00 ∷ 0x01 ∷ 0x00 ∷ 0x00 ∷ 0x80 ∷ 0x3F ∷ []))
    ∷ []

-- the table, "proved together as one statement about the rules, with the five frame sizes"
pub record Acceptance : Type 0 where
  -- neither setup breaks a limit
  pub setups : map setup_ok (four_binaries ∷ one_of_each ∷ []) ≡ true ∷ true ∷ []
  -- "a to h one run"
  pub a_to_h : AnswersAre four_binaries to_h
  -- "5,001 and i in place of h's first"
  pub a_to_late : AnswersAre four_binaries late
  pub a_to_i : AnswersAre four_binaries other_sequence
  -- d's event is held until f releases it
  pub releases : map (held_count four_binaries) (to_d ∷ to_e ∷ to_f ∷ []) ≡ 1 ∷ 1 ∷ 0 ∷ []
  -- "j its own run"
  pub j_alone : AnswersAre one_of_each j
  -- "10 for n = 0, 13 for 1, 28 for 16, 31 for 17, 292 for 250"
  pub frame_sizes : map frame_size (0 ∷ 1 ∷ 16 ∷ 17 ∷ 250 ∷ []) ≡ 10 ∷ 13 ∷ 28 ∷ 31 ∷ 292 ∷ []
