-- `read::asked` meets its contract. The invariant: what was gathered, with what the headers to come ask for, is what all ask for.
-- Assumes nothing.
use mathlib.Core.List.{List}
use Prim.Native.Nat.{ℕ}
use Rattle.point_store.specs.PointWords.{points_view_in}
use Rattle.read.proofs.AskLaws.{Gathering}
use Rattle.read.proofs.asked.Given as goal

abbrev pub invariant-headers : goal.invariant-headers
invariant-headers l = (b : List ℕ) → Gathering (points_view_in l.n b l.analogs) l.binary_count l.analog_count l.s l.rest l.classes l.size l.counter
