-- Counting the calls of rows: the lists hold one count for each row, row 1 first.
use Rattle.std.specs.Prelude.{◌≡◌, ℕ, ◌+◌, ◌-◌, ◌^◌, List, min, slice_index}
use Rattle.rrs_lib.specs.Table.{Row, table}

-- the count of a row
abbrev pub count_of : List ℕ → Row → ℕ
count_of counts row = slice_index counts ((table row).number - 1)

-- one call of this row was counted, up to 2 ^ 64 - 1, and no call of a row with another number
pub record CountsOnce (row : Row) (old new : List ℕ) : Type 0 where
  pub counted : count_of new row ≡ min (count_of old row + 1) (2 ^ 64 - 1)
  pub others : (other : Row) → ¬ ((table other).number ≡ (table row).number)
      → count_of new other ≡ count_of old other
