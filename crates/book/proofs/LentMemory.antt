-- A head and lent memory for the states of the run in `Run`: one binary, events of it alone, no analog output. The words are laid out as `point_store/PointWords` and
-- `event_store/EventWords` read them.
-- Assumes nothing.
use Prim.Native.Nat.{ℕ, zero, suc, ◌+◌, ◌*◌, ◌-◌, ◌/◌, ◌%◌, ◌^◌, ◌≤◌, ◌<◌}
use mathlib.Core.Path.{◌≡◌, refl, sym, ap, ◌∙◌}
use mathlib.Core.Bool.{Bool, true, false, cond}
use mathlib.Core.List.{List, [], ◌∷◌, ◌++◌}
use Rattle.std.proofs.Common.{Option, Some, None}
use native.Mathlib.Nat.{le_of_suc-le-suc, not-suc-le-zero}
use native.Mathlib.Omega.{arith}
use lib.Dec.{eqb}
use lib.ListN.{length, take, drop, replicate}
use lib.Seq.{take-append_seam}
use Rattle.laws.specs.Limits.{fragment_max, events_max, points_max}
use Rattle.points.specs.declared.BinaryPoint.{BinaryPoint}
use Rattle.points.specs.PointsView.{points_view}
use Rattle.events.specs.declared.Held.{Held}
use Rattle.events.specs.declared.Shown.{Shown}
use Rattle.events.specs.declared.Shown.TheVariants.{State, Analog}
use Rattle.events.specs.BufferView.{buffer_view}
use Rattle.analog_outputs.specs.Output.{analog_outputs_max}
use Rattle.control.specs.Objects.{echo_max, answer_max}
use Rattle.select_latch.specs.Select.{no_select, latch_of}
use Rattle.last_request.specs.Repeat.{LastRequestView, nothing, kept, last_in}
use Rattle.words.specs.Numbers.{holds}
use Rattle.words.specs.Records.{tab, chunk, records}
use Rattle.words.proofs.RecordLaws.{tab-same}
use Rattle.point_store.specs.PointWords.{binaries_in}
use Rattle.event_store.specs.EventWords.{event_of, held_of, slots_in}
use Rattle.outstation.specs.declared.Head.{Head}
use Rattle.outstation.specs.declared.Awaited.{Awaited}
use Rattle.outstation.specs.OutstationView.{OutstationView}
use Rattle.outstation.specs.Lent.{Lent, Outstation, outstation_view, wait_of}

-- ---- the memory: lists in use, padded to their arrays

abbrev pub padded : ℕ → List ℕ → List ℕ
padded n l = l ++ replicate (n - length l) 0

abbrev bit : Bool → ℕ
bit true = 1
bit false = 0

-- a held event of point 0, flags 1, class 1
abbrev second : (carried : Bool) → Shown → ℕ
second carried (State on) = bit on + 2 ^ 32 * (1 + 256 * (1 + 256 * 3)) + 2 ^ 56 * bit carried
second carried (Analog v) = 0

abbrev event_words : List Held → List ℕ → List ℕ
event_words [] rest = rest
event_words (h ∷ hs) rest = h.event.time ∷ second h.carried h.event.shown ∷ event_words hs rest

abbrev binary_word : BinaryPoint → ℕ
binary_word b = b.class + 256 * b.flags + 65536 * b.reported_flags + 16777216 * bit b.seen + 33554432 * bit b.state

abbrev binary_words : List BinaryPoint → List ℕ → List ℕ
binary_words [] rest = rest
binary_words (b ∷ bs) rest = binary_word b ∷ binary_words bs rest

abbrev request_in : LastRequestView → List ℕ
request_in nothing = []
request_in (kept f a) = f

abbrev answer_in : LastRequestView → List ℕ
answer_in nothing = []
answer_in (kept f a) = a

abbrev is_kept : LastRequestView → Bool
is_kept nothing = false
is_kept (kept f a) = true

-- the awaited confirmation in numbers
abbrev waiting_in : Option Awaited → ℕ
waiting_in None = 0
waiting_in (Some a) = 1

abbrev sequence_in : Option Awaited → ℕ
sequence_in None = 0
sequence_in (Some a) = a.sequence.0

abbrev time_in : Option Awaited → ℕ
time_in None = 0
time_in (Some a) = a.time

abbrev shown_in : Option Awaited → ℕ
shown_in None = 0
shown_in (Some a) = bit a.showed_overflow

abbrev since_in : Option Awaited → ℕ
since_in None = 0
since_in (Some a) = bit a.dropped_since

abbrev head_for : OutstationView → Head
head_for w =
    record {
      arm_time = w.shared.arm_time;
      confirm_time = w.shared.confirm_time;
      clock = w.shared.clock;
      wait_time = time_in w.master.session.wait;
      latch_time = 0;
      binary_count = length w.shared.inputs.binaries;
      analog_count = 0;
      event_count = length w.master.buffer.held;
      request_len = length (request_in w.master.session.last);
      answer_len = length (answer_in w.master.session.last);
      latch_len = 0;
      outputs = w.shared.outputs.relays;
      overflow = bit w.master.buffer.overflow;
      restarted = bit w.master.session.restarted;
      waiting = waiting_in w.master.session.wait;
      wait_sequence = sequence_in w.master.session.wait;
      showed_overflow = shown_in w.master.session.wait;
      dropped_since = since_in w.master.session.wait;
      request_kept = bit (is_kept w.master.session.last);
      latch_armed = 0;
      latch_sequence = 0;
      analog_outputs = 0;
    }

abbrev lent_for : OutstationView → List ℕ → List ℕ → Lent
lent_for w b e =
    record {
      binaries = binary_words w.shared.inputs.binaries b;
      analogs = replicate (8 * points_max) 0;
      held = event_words w.master.buffer.held e;
      request = padded fragment_max (request_in w.master.session.last);
      answer = padded answer_max (answer_in w.master.session.last);
      objects = replicate echo_max 0;
      outputs = replicate (3 * analog_outputs_max) 0;
    }

abbrev pub outstation_for : OutstationView → Outstation
outstation_for w =
    record {
      head = head_for w;
      lent =
          lent_for w (replicate (points_max - length w.shared.inputs.binaries) 0)
          (replicate (2 * (events_max - length w.master.buffer.held)) 0);
    }

-- ---- what it stands for

holds-bit : (b : Bool) → holds (bit b) ≡ b
holds-bit true = refl
holds-bit false = refl

-- each event is what its words stand for
unfoldable pub Coded : List Held → Type 0
Coded [] = Unit {0}
Coded (h ∷ hs) = (held_of (h.event.time ∷ second h.carried h.event.shown ∷ []) ≡ h) × Coded hs

pub none-coded : Coded []
unfolding Coded
none-coded = tt

-- an event of point 0, flags 1, class 1
pub event-coded : (carried on : Bool) (time : ℕ) (hs : List Held) → time < 2 ^ 48 → Coded hs
    → Coded (record { event = record { point = 0; shown = State on; flags = 1; time = time; class = 1 }; carried = carried } ∷ hs)
unfolding Coded held_of event_of
event-coded carried on time hs h c = (one carried on, c)
  where
    same : time % 2 ^ 48 ≡ time
    same = omega (arith, h)

    low : time / 2 ^ 48 ≡ 0
    low = omega (arith, h)

    one : (carried on : Bool)
        → held_of (time ∷ second carried (State on) ∷ [])
        ≡ record { event = record { point = 0; shown = State on; flags = 1; time = time; class = 1 }; carried = carried }
    one true true = λ k. record { event = record { point = low k; shown = State true; flags = 1; time = same k; class = 1 }; carried = true }
    one true false = λ k. record { event = record { point = low k; shown = State false; flags = 1; time = same k; class = 1 }; carried = true }
    one false true = λ k. record { event = record { point = low k; shown = State true; flags = 1; time = same k; class = 1 }; carried = false }
    one false false = λ k. record { event = record { point = low k; shown = State false; flags = 1; time = same k; class = 1 }; carried = false }

events-front : (n : ℕ) (hs : List Held) (rest : List ℕ) → length hs ≤ n → Coded hs → take (length hs) (records 2 held_of n (event_words hs rest)) ≡ hs
unfolding Coded records tab chunk
events-front n [] rest l c = refl
events-front zero (h ∷ hs) rest l c = absurd (not-suc-le-zero l)
events-front (suc n) (h ∷ hs) rest l c =
    let a = h.event.time in
    let b = second h.carried h.event.shown in
    let later : (j : ℕ) → held_of (take 2 (drop (2 * suc j) (a ∷ b ∷ event_words hs rest))) ≡ held_of (take 2 (drop (2 * j) (event_words hs rest))) =
    λ j. ap (λ (m : ℕ). held_of (take 2 (drop m (a ∷ b ∷ event_words hs rest)))) (two j) in
    λ k.
    c.0 k
    ∷ (ap (take (length hs)) (tab-same (λ j. held_of (take 2 (drop (2 * suc j) (a ∷ b ∷ event_words hs rest)))) (λ j. held_of (take 2 (drop (2 * j) (event_words hs rest)))) n later)
    ∙ events-front n hs rest (le_of_suc-le-suc l) c.1) k
  where
    two : (j : ℕ) → 2 * suc j ≡ suc (suc (2 * j))
    two j = omega arith

last-for : (m : LastRequestView)
    → last_in (padded fragment_max (request_in m)) (padded answer_max (answer_in m)) (cond (holds (bit (is_kept m))) (Some (record { request_len = length (request_in m); answer_len = length (answer_in m) })) None)
    ≡ m
unfolding last_in
last-for nothing = refl
last-for (kept f a) = rw (take-append_seam f (replicate (fragment_max - length f) 0), take-append_seam a (replicate (answer_max - length a) 0))

wait-for : (w : OutstationView) → wait_of (head_for w) ≡ w.master.session.wait
unfolding wait_of
wait-for w = go w.master.session.wait
  where
    go : (v : Option Awaited)
        → cond (eqb (waiting_in v) 0) None
        (Some (record { sequence = record { 0 = sequence_in v }; time = time_in v; showed_overflow = holds (shown_in v); dropped_since = holds (since_in v) }))
        ≡ v
    go None = refl
    go (Some a) =
        λ k.
        Some
        (record { sequence = a.sequence; time = a.time; showed_overflow = holds-bit a.showed_overflow k; dropped_since = holds-bit a.dropped_since k })

-- a state that it is laid out for
pub record Fits (w : OutstationView) : Type 0 where
  pub binaries : take (length w.shared.inputs.binaries) (binaries_in (outstation_for w).lent.binaries) ≡ w.shared.inputs.binaries
  pub analogs : w.shared.inputs.analogs ≡ []
  pub outputs : w.shared.outputs.analog ≡ []
  pub events : Coded w.master.buffer.held
  pub few : length w.master.buffer.held ≤ events_max
  pub latch : w.master.session.latch ≡ no_select

pub view-for : (w : OutstationView) → Fits w → outstation_view (outstation_for w) ≡ w
unfolding points_view buffer_view slots_in latch_of
view-for w f =
    λ k.
    record {
      shared =
          record {
            arm_time = w.shared.arm_time;
            confirm_time = w.shared.confirm_time;
            outputs = record { relays = w.shared.outputs.relays; analog = sym f.outputs k };
            clock = w.shared.clock;
            inputs = record { binaries = f.binaries k; analogs = sym f.analogs k };
          };
      master =
          record {
            buffer =
                record {
                  held = events-front events_max w.master.buffer.held (replicate (2 * (events_max - length w.master.buffer.held)) 0) f.few f.events k;
                  overflow = holds-bit w.master.buffer.overflow k;
                };
            session =
                record {
                  restarted = holds-bit w.master.session.restarted k;
                  wait = wait-for w k;
                  last = last-for w.master.session.last k;
                  latch = sym f.latch k;
                };
          };
    }
