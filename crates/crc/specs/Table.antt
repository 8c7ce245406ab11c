-- The table of the check. Request 102: "Use a table of 256 numbers instead, its rule proved once over the whole table."
-- It has 16 rows of 16 numbers, a row for each half of eight bytes, in the order in which their bits are shifted out.
-- Assumes nothing.
use Rattle.std.specs.Prelude.{◌≡◌, ℕ, ◌-◌, ◌*◌, ◌/◌, ◌%◌, ◌<◌, List, get_or}
use Rattle.crc.specs.Check.{shifts}

-- the number at j, in row j / 16: what is left of the half byte j % 16 when the 64 - 4 × row bits from it on are shifted out
unfoldable pub entry_of : ℕ → ℕ
entry_of j = shifts (64 - 4 * (j / 16)) (j % 16)

-- these are the table's 256 numbers
unfoldable pub IsTable : List ℕ → Type 0
IsTable t = (j : ℕ) → j < 256 → get_or t j 0 ≡ entry_of j
