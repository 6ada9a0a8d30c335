-- The row of a text is read from its name, which is what is before the first blank.
use Rattle.std.proofs.Common.{◌≡◌, ℕ, List, [], ◌∷◌, Option, Some, ◌==◌, if◌then◌else◌, refl, ap}
use Rattle.std.specs.List.{find}
use Rattle.std.specs.Str.{bytes_eq}
use Rattle.rrs_lib.specs.Table.{Row, all_rows}
use Rattle.rrs_lib.specs.Texts.{name_of}

-- what is before the first blank, or the whole text where there is none
abbrev pub first_word : List ℕ → List ℕ
first_word [] = []
first_word (byte ∷ rest) = if byte == 32 then [] else (byte ∷ first_word rest)

-- the row that a name is of
row_named : List ℕ → Option Row
row_named name = find (λ row. bytes_eq (name_of row) name) all_rows

-- each row is the one with its name
row_named-name : (row : Row) → row_named (name_of row) ≡ Some row
unfolding row_named
row_named-name Row.Add = refl
row_named-name _ = refl

-- two rows with one name are one
pub same_row : (row row' : Row) → name_of row ≡ name_of row' → row ≡ row'
same_row row row' e = cc (row_named-name row, row_named-name row', ap row_named e)
