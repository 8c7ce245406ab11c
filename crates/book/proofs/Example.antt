-- A run of the book that antt computes: two readings of a binary of class 1, a READ of class 1, a CONFIRM with a wrong sequence
-- and its CONFIRM.
-- Assumes nothing.
use Prim.Native.Nat.{ℕ}
use mathlib.Core.Path.{◌≡◌, refl}
use mathlib.Core.Bool.{Bool, true, false}
use mathlib.Core.List.{List, [], ◌∷◌}
use lib.ListN.{replicate}
use Rattle.laws.specs.Limits.{fragment_max, points_max}
use Rattle.points.specs.Reading as P
use Rattle.points.specs.declared.Gate.TheVariants as G
use Rattle.points.specs.declared.AnalogKind.TheVariants as Ks
use Rattle.events.specs.declared.Shown.TheVariants.{State}
use Rattle.events.specs.Placing as E
use Rattle.read_headers.specs.Parse as A
use Rattle.objects.specs.Runs.{encoded, runs, all_bytes}
use Rattle.static_objects.specs.Static.{static_bytes, range_bytes, point_objects}
use Rattle.outstation.specs.Setup.{Setup}
use Rattle.outstation.specs.declared.Measured.TheVariants as Ms
use Rattle.outstation.specs.Setup as U
use Rattle.outstation.specs.Readings as R
use Rattle.outstation.specs.Requests as Q
use Rattle.analog_outputs.specs.Output.{analog_outputs_max}
use Rattle.analog_outputs.specs.OutputWords.{no_output}
use Rattle.outstation.specs.Step.{Call, reading, fragment}
use Rattle.book.specs.Book as B
use Rattle.book.specs.Book.{Book, BookAnswer, takes, refuses, carries, accepts, hold!, built!, confirmed!, released, enter, book_of}
use Rattle.book.specs.Demand3.{book_after, history_after}

-- one binary, of class 1
abbrev pub one_binary : Setup
one_binary =
    record {
      own = 1;
      master = 2;
      arm_time = 5000;
      confirm_time = 5000;
      outputs = 16;
      binary_count = 1;
      analog_count = 0;
      classes = 1 ∷ replicate 63 0;
      analogs = replicate points_max (record { class = 0; kind = Ks.Int32 G.Never });
      analog_output_count = 0;
      analog_outputs = replicate analog_outputs_max no_output;
    }

-- the binary is so, from this time on
abbrev is_at : ℕ → Bool → Call
is_at time on = reading (record { time = time; point = 0; measured = Ms.State on; flags = 1 })

abbrev calls : List Call
calls =
    is_at 0 false
    ∷ is_at 1000 true
    ∷ fragment 1001 (0xC3 ∷ 0x01 ∷ 0x3C ∷ 0x02 ∷ 0x06 ∷ []) fragment_max
    ∷ fragment 1002 (0xC4 ∷ 0x00 ∷ []) fragment_max
    ∷ fragment 1003 (0xC3 ∷ 0x00 ∷ []) fragment_max
    ∷ []

-- what the book says of each call
abbrev sayings : List Call → Book → List BookAnswer
sayings [] b = []
sayings (c ∷ cs) b = (enter c b).answer ∷ sayings cs (enter c b).book

-- one event was raised, carried and released; the wrong CONFIRM was refused
run :
    ((book_after calls (book_of one_binary)).master.rows
    ≡ record { event = record { point = 0; shown = State true; flags = 1; time = 1000; class = 1 }; mark = released } ∷ [])
    × (sayings calls (book_of one_binary)
    ≡ takes 1 0 ∷ takes 1 0 ∷ carries (0 ∷ []) [] ∷ refuses 32 ∷ accepts ∷ [])
    × (history_after calls (book_of one_binary) [] ≡ confirmed! 0 ∷ built! 0 (0 ∷ []) ∷ hold! 0 ∷ [])
unfolding B.book_of B.enter B.reading_entry B.enter_reading B.reading_entries B.enter_event B.full B.fragment_entry B.read_entry B.confirm_entry B.confirmed_entry
    U.binary_classes U.analog_setups R.apply_reading R.bad_time P.read_binary P.is_reported P.is_raised
    Q.ask Q.is_confirmed A.headers_of A.asks_for
    E.fits E.space_after E.cost_of static_bytes range_bytes point_objects encoded runs all_bytes
run = (refl, refl, refl)
