-- Which symbols a source defines (GNU assembler manual, "Labels", "Setting Symbols", ".set symbol,
-- expression", ".equ symbol, expression", ".equiv symbol, expression", ".comm symbol, length" and
-- ".lcomm symbol, length"): a word before a colon is a label, and after the labels of a statement a
-- word before `=` is a constant, as the one after `.set`, `.equ` or `.equiv` is before its comma.
-- The word after `.comm` or `.lcomm` is a symbol of bytes that are zero. `.ifdef` sees these names.
use Rattle.std.specs.Prelude.{◌≡◌, ℕ, zero, suc, ◌+◌, Bool, true, false, ◌||◌, ◌==◌, if◌then◌else◌, List, [], ◌∷◌, ◌++◌, codes, length, Option, is_some}
use Rattle.std.specs.List.{list_any}
use Rattle.std.specs.Option.{option_map_or}
use Rattle.std.specs.Str.{bytes_eq}
use Rattle.rrs_asm_lines.specs.Lines.{begins_with, behind_blanks, behind_word, word}
use Rattle.rrs_asm_macros.specs.Scanning.{behind_labels, code_from, first_label, others_from}
use Rattle.rrs_asm_macros.specs.Tables.{symbol_named}
use Rattle.rrs_asm_macros.specs.declared.scanning.Place.{Place}
use Rattle.rrs_asm_macros.specs.declared.symbols.Symbols.{Symbols}

-- the names of the labels of a statement, of which there are no more than so many
abbrev pub so_many_labels : ℕ → List ℕ → List (List ℕ)
so_many_labels zero code = []
so_many_labels (suc most) code =
    option_map_or (λ label. label.0 ∷ so_many_labels most label.1) (first_label code) []

abbrev pub labels_of : List ℕ → List (List ℕ)
labels_of code = so_many_labels (length code) code

abbrev pub sets_constant : List ℕ → Bool
sets_constant word = bytes_eq word (codes ".equ")
    || (bytes_eq word (codes ".set") || bytes_eq word (codes ".equiv"))

abbrev pub sets_space : List ℕ → Bool
sets_space word = bytes_eq word (codes ".comm") || bytes_eq word (codes ".lcomm")

-- this name, if it has bytes
abbrev pub named : List ℕ → List (List ℕ)
named [] = []
named (b ∷ bs) = (b ∷ bs) ∷ []

-- this name, where a mark stands after it
abbrev pub named_before : ℕ → List ℕ → List ℕ → List (List ℕ)
named_before mark name rest = if begins_with mark (behind_blanks rest) then named name else []

-- the constant or the space that a statement with no labels defines, if it does
abbrev pub constant_of : List ℕ → List (List ℕ)
constant_of statement =
    if sets_space (word statement) then named (word (behind_word statement))
    else (if sets_constant (word statement)
    then named_before 44 (word (behind_word statement)) (behind_word (behind_word statement))
    else named_before 61 (word statement) (behind_word statement))

-- what a statement defines
abbrev pub symbols_of : List ℕ → List (List ℕ)
symbols_of code = labels_of code ++ constant_of (behind_labels code)

-- what the statements of a line define, of which there are no more than so many
abbrev pub so_many_symbols : ℕ → List ℕ → List (List ℕ)
so_many_symbols zero line = []
so_many_symbols (suc most) line = symbols_of (code_from Place.Plain line)
    ++ option_map_or (λ others. so_many_symbols most others) (others_from Place.Plain line) []

abbrev pub symbols_of_line : List ℕ → List (List ℕ)
symbols_of_line line = so_many_symbols (length line + 1) line

abbrev pub is_one : List (List ℕ) → List ℕ → Bool
is_one names name = list_any (λ own. bytes_eq own name) names

-- These names are defined, where no memory was missing, and every other is what it was.
pub record Defines {A : Type 0} (old new : Symbols A) (names : List (List ℕ)) : Type 0 where
  pub defined : new.is_short ≡ false → (name : List ℕ) → is_one names name ≡ true
      → is_some (symbol_named name new) ≡ true
  pub others_kept : (name : List ℕ) → is_one names name ≡ false
      → symbol_named name new ≡ symbol_named name old
  pub short_kept : old.is_short ≡ true → new.is_short ≡ true
