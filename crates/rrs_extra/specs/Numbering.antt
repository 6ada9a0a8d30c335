-- What a row's number is: the column of that name in the table.
use Rattle.std.specs.Prelude.{◌≡◌, ℕ}
use Rattle.rrs_lib.specs.Encodings.{Fields}
use Rattle.rrs_lib.specs.Table.{Row, table}

-- the answer is the row's number, whatever its fields and the processor, which has no state
abbrev pub Numbers : {P : Type 0} → Row → Fields → P → P → ℕ → Type 0
Numbers row f old new answer = answer ≡ (table row).number
