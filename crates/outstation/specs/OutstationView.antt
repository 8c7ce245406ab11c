-- The outstation as its contracts see it: numbers, and lists of what is in use.
-- Assumes nothing.
use Rattle.std.specs.Prelude.{ℕ, Bool, true, false, [], map, replicate, Option, None}
use Rattle.laws.specs.Limits.{points_max}
use Rattle.points.specs.PointsView.{PointsView}
use Rattle.points.specs.Setup.{fresh_binary, fresh_analog}
use Rattle.points.specs.declared.Gate.TheVariants as G
use Rattle.points.specs.declared.AnalogKind.TheVariants as Ks
use Rattle.events.specs.BufferView.{BufferView}
use Rattle.select_latch.specs.Select.{LatchView, no_select}
use Rattle.last_request.specs.Repeat.{LastRequestView, nothing}
use Rattle.outstation.specs.declared.Awaited.{Awaited}
use Rattle.analog_outputs.specs.Output.{analog_outputs_max}
use Rattle.analog_outputs.specs.OutputWords.{no_output}
use Rattle.control.specs.Status.{Outputs}
use Rattle.outstation.specs.Setup.{Setup, binary_classes, analog_setups, outputs_set_up}

-- what all masters share: the times that are set up, the outputs, the clock and the points
pub record SharedView : Type 0 where
  pub arm_time : ℕ
  pub confirm_time : ℕ
  pub outputs : Outputs
  pub clock : ℕ
  pub inputs : PointsView

-- the session with the master: IIN1.7, the awaited confirmation, the last accepted request with its answer, the select latch
pub record SessionView : Type 0 where
  pub restarted : Bool
  pub wait : Option Awaited
  pub last : LastRequestView
  pub latch : LatchView

-- what belongs to one master: the events held for it with IIN2.3, and the session with it
pub record MasterView : Type 0 where
  pub buffer : BufferView
  pub session : SessionView

pub record OutstationView : Type 0 where
  pub shared : SharedView
  pub master : MasterView

-- ---- one part set, all else as it was

abbrev pub with_clock : ℕ → SharedView → SharedView
with_clock time s = record { arm_time = s.arm_time; confirm_time = s.confirm_time; outputs = s.outputs; clock = time; inputs = s.inputs }

abbrev pub with_inputs : PointsView → SharedView → SharedView
with_inputs i s = record { arm_time = s.arm_time; confirm_time = s.confirm_time; outputs = s.outputs; clock = s.clock; inputs = i }

abbrev pub with_buffer : BufferView → MasterView → MasterView
with_buffer k m = record { buffer = k; session = m.session }

abbrev pub with_session : SessionView → MasterView → MasterView
with_session x m = record { buffer = m.buffer; session = x }

abbrev pub with_shared : SharedView → OutstationView → OutstationView
with_shared s w = record { shared = s; master = w.master }

abbrev pub with_master : MasterView → OutstationView → OutstationView
with_master m w = record { shared = w.shared; master = m }

-- ---- after a restart

-- IIN1.7 stands, nothing is awaited, kept or selected
abbrev pub fresh_session : SessionView
fresh_session = record { restarted = true; wait = None; last = nothing; latch = no_select }

-- "A restart keeps only the setup."
unfoldable pub restarted : Setup → OutstationView
restarted u =
    record {
      shared =
          record {
            arm_time = u.arm_time;
            confirm_time = u.confirm_time;
            outputs = outputs_set_up u;
            clock = 0;
            inputs = record { binaries = map fresh_binary (binary_classes u); analogs = map fresh_analog (analog_setups u) };
          };
      master = record { buffer = record { held = []; overflow = false }; session = fresh_session };
    }

-- a setup with no points and no outputs: what a refused setup is replaced by, so that nothing can be reported or operated
abbrev pub bare_setup : Setup
bare_setup =
    record {
      own = 0;
      master = 0;
      arm_time = 0;
      confirm_time = 0;
      outputs = 0;
      binary_count = 0;
      analog_count = 0;
      classes = replicate points_max 0;
      analogs = replicate points_max (record { class = 0; kind = Ks.Int32 G.Never });
      analog_output_count = 0;
      analog_outputs = replicate analog_outputs_max no_output;
    }
