-- `restart::fresh_analogs` meets its contract. The invariant: so many passed, and they are stored.
-- Assumes nothing.
use mathlib.Core.Path.{◌≡◌}
use Rattle.restart.specs.Restart.{analog_given_ok, fresh_analog_of}
use Rattle.point_store.specs.PointWords.{analogs_in}
use Rattle.restart.proofs.StoringLaws.{Storing}
use Rattle.restart.proofs.fresh_analogs.Given as goal

abbrev pub invariant-loop-i : goal.invariant-loop-i
invariant-loop-i l = Storing analog_given_ok fresh_analog_of l.setups (analogs_in l.initial.analogs) (analogs_in l.analogs) l.i × (l.i ≡ 0 → l.analogs ≡ l.initial.analogs)
