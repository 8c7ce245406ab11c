-- `crc::check` meets its contract. The constant array is the table: its numbers are computed and compared.
-- Assumes nothing.
use mathlib.Core.Path.{refl, ap}
use Prim.Native.Nat.{ℕ, ◌-◌}
use Rattle.crc.specs.Check.{shift_of, shifts, check_of}
use Rattle.crc.specs.Table.{entry_of}
use Rattle.crc.proofs.TableLaws.{entries_from, table-by-test}
use Rattle.crc.proofs.check.Goals as goal

pub remainder_by-requires : goal.remainder_by-requires
unfolding entries_from entry_of shifts shift_of
remainder_by-requires c = table-by-test _ refl tt

pub returns : goal.returns
unfolding check_of
returns c = ap (λ (x : ℕ). 65535 - x) c.remainder_by.ensures
