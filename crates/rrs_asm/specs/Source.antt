-- The items of a source of assembly: the labels and the statements that stand in its lines, each
-- with its line and its name (GNU assembler manual, "Syntax": statements and labels). The lines and
-- their parts are those of `rrs_asm_lines`. What the operands of a statement mean is not said here.
use Rattle.std.specs.Prelude.{ℕ, ◌+◌, Bool, not, ◌&&◌, ◌==◌, if◌then◌else◌, List, [], ◌∷◌, ◌++◌, length, codes}
use Rattle.std.specs.List.{starts_with}
use Rattle.std.specs.Str.{bytes_eq}
use Rattle.rrs_asm_lines.specs.Lines.{Part, lines, begins_with, parts, behind_blanks, word, behind_word}
use Rattle.rrs_asm.specs.Names.{is_silent_name, is_section_name, is_common_name}

-- ---- items

-- What stands in a line: a label and a statement that is laid out as bytes, each by its name, a
-- directive that opens a section, by the name of the section, and a directive that puts a symbol
-- into `COMMON`, by its name and that of the symbol.
pub data Item : Type 0 where
  Label : (line : ℕ) (name : List ℕ) → Item
  Laid : (line : ℕ) (name : List ℕ) → Item
  Section : (name : List ℕ) → Item
  Common : (line : ℕ) (directive symbol : List ℕ) → Item

abbrev pub is_empty : List ℕ → Bool
is_empty text = length text == 0

-- the section that a directive of this name opens: that of its name, or one that it names
abbrev pub section_opened : List ℕ → List ℕ → List ℕ
section_opened name operands = if bytes_eq name (codes ".section") then word operands else name

-- a statement of this name: nothing, where its name is that of a directive that lays no bytes
abbrev pub items_named : ℕ → List ℕ → List ℕ → List Item
items_named line name operands =
    if is_silent_name name then []
    else (if is_section_name name then Item.Section (section_opened name operands) ∷ []
    else (if is_common_name name then Item.Common line name (word operands) ∷ []
    else Item.Laid line name ∷ []))

-- a first word and what stands after it: nothing, where that is a constant, `name = value`
abbrev pub items_behind : ℕ → List ℕ → List ℕ → List Item
items_behind line name behind =
    if begins_with 61 (behind_blanks behind) then [] else items_named line name behind

-- a statement with this text: nothing, where it is blank
abbrev pub items_in_statement : ℕ → List ℕ → List Item
items_in_statement line text =
    if is_empty (behind_blanks text) then [] else items_behind line (word text) (behind_word text)

abbrev pub items_in : ℕ → Part → List Item
items_in line (Part.Label text) = Item.Label line (word text) ∷ []
items_in line (Part.Statement text) = items_in_statement line text

abbrev pub items_of_parts : ℕ → List Part → List Item
items_of_parts line [] = []
items_of_parts line (part ∷ parts) = items_in line part ++ items_of_parts line parts

-- the items of lines, the first of which has this number
abbrev pub items_from : ℕ → List (List ℕ) → List Item
items_from number [] = []
items_from number (line ∷ others) =
    items_of_parts number (parts line) ++ items_from (number + 1) others

-- the items of a source, in order: its lines are counted from 1
abbrev pub items_of : List ℕ → List Item
items_of source = items_from 1 (lines source)

-- ---- sections

abbrev pub begins_as : List ℕ → List ℕ → Bool
begins_as name first = starts_with (λ a b. a == b) name first

-- A section with debugging data or notes is not laid out.
abbrev pub is_laid_out : List ℕ → Bool
is_laid_out name =
    not (begins_as name (codes ".debug")) && (not (begins_as name (codes ".note"))
    && (not (begins_as name (codes ".comment")) && (not (begins_as name (codes ".eh_frame"))
    && (not (begins_as name (codes ".gnu")) && (not (begins_as name (codes ".riscv"))
    && not (begins_as name (codes ".stab")))))))
