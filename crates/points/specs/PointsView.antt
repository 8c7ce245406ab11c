-- The inputs as contracts see them: the installed points of each kind, in the order of their numbers.
-- Assumes nothing.
use Rattle.std.specs.Prelude.{ℕ, false, List, pos, take}
use Rattle.points.specs.declared.Value.TheVariants as Vs
use Rattle.points.specs.declared.Gate.TheVariants as G
use Rattle.points.specs.declared.AnalogState.TheVariants as Ms
use Rattle.points.specs.declared.BinaryPoint.{BinaryPoint}
use Rattle.points.specs.declared.AnalogPoint.{AnalogPoint}

pub record PointsView : Type 0 where
  pub binaries : List BinaryPoint
  pub analogs : List AnalogPoint

-- the places of the points of each kind; the first so many are installed
pub record Points : Type 0 where
  pub binaries : List BinaryPoint
  pub binary_count : ℕ
  pub analogs : List AnalogPoint
  pub analog_count : ℕ

-- a count past the places has all of them, so that any points have a meaning
unfoldable pub points_view : Points → PointsView
points_view p = record { binaries = take p.binary_count p.binaries; analogs = take p.analog_count p.analogs }

-- what a read past the end of an array of points counts as
abbrev pub no_binary : BinaryPoint
no_binary = record { class = 0; seen = false; state = false; flags = 0; reported_flags = 0 }

abbrev pub no_analog : AnalogPoint
no_analog =
    record {
      class = 0;
      seen = false;
      value = Vs.Int32 (pos 0);
      flags = 0;
      reported_flags = 0;
      gate_state = Ms.Int32 (record { gate = G.Never; reported_value = pos 0; previous = pos 0; sum = 0 });
    }
