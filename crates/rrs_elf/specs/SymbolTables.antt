-- The fields of sections and of symbols, by their offsets and with the names that the System V
-- generic ABI gives them in "Sections" (Elf32_Shdr, 40 bytes) and "Symbol Table" (Elf32_Sym, 16
-- bytes); where the symbol table is, why it is refused, and what a name is ("String Table").
use Rattle.std.specs.Prelude.{◌≡◌, ◌≢◌, ℕ, zero, suc, ◌+◌, ◌-◌, ◌*◌, ◌/◌, ◌<◌, ◌≤◌, Bool, not, ◌&&◌, ◌==◌, nat_le, nat_lt, if◌then◌else◌, List, [], ◌∷◌, ◌++◌, length, slice_index, Option, Some, None, is_ok}
use Rattle.std.specs.Option.{option_or}
use Rattle.rrs_elf.specs.declared.errors.ElfError.TheVariants.{SectionHeaderSize, SectionHeadersCutShort, SymbolSize, SymbolTableCutShort, NoStringTable, StringTableCutShort, StringTableNotEnded, NameOutside}
use Rattle.rrs_elf.specs.Numbers.{half, word}
use Rattle.rrs_elf.specs.Headers.{e_shoff, e_shentsize, e_shnum}
use Rattle.rrs_elf.specs.Refusals.{Check, first_refusal, checks_below}

-- ---- the header of section s

abbrev pub section_header_start : List ℕ → ℕ → ℕ
section_header_start file s = e_shoff file + 40 * s

abbrev pub sh_type : List ℕ → ℕ → ℕ
sh_type file s = word file (section_header_start file s + 4)

abbrev pub sh_offset : List ℕ → ℕ → ℕ
sh_offset file s = word file (section_header_start file s + 16)

abbrev pub sh_size : List ℕ → ℕ → ℕ
sh_size file s = word file (section_header_start file s + 20)

abbrev pub sh_link : List ℕ → ℕ → ℕ
sh_link file s = word file (section_header_start file s + 24)

abbrev pub sh_entsize : List ℕ → ℕ → ℕ
sh_entsize file s = word file (section_header_start file s + 36)

-- ---- symbol n of the symbol table that is section t

abbrev pub symbol_start : List ℕ → ℕ → ℕ → ℕ
symbol_start file t n = sh_offset file t + 16 * n

abbrev pub symbol_count : List ℕ → ℕ → ℕ
symbol_count file t = sh_size file t / 16

abbrev pub st_name : List ℕ → ℕ → ℕ → ℕ
st_name file t n = word file (symbol_start file t n)

abbrev pub st_value : List ℕ → ℕ → ℕ → ℕ
st_value file t n = word file (symbol_start file t n + 4)

abbrev pub st_size : List ℕ → ℕ → ℕ → ℕ
st_size file t n = word file (symbol_start file t n + 8)

abbrev pub st_info : List ℕ → ℕ → ℕ → ℕ
st_info file t n = slice_index file (symbol_start file t n + 12)

abbrev pub st_other : List ℕ → ℕ → ℕ → ℕ
st_other file t n = slice_index file (symbol_start file t n + 13)

abbrev pub st_shndx : List ℕ → ℕ → ℕ → ℕ
st_shndx file t n = half file (symbol_start file t n + 14)

-- ---- where the table is

-- the first of the first n sections whose type is SHT_SYMTAB, 2
abbrev pub symbol_table_below : List ℕ → ℕ → Option ℕ
symbol_table_below file zero = None
symbol_table_below file (suc n) = option_or (symbol_table_below file n)
    (if sh_type file n == 2 then Some n else None)

-- the section with the symbol table, if there is one
abbrev pub symbol_table : List ℕ → Option ℕ
symbol_table file = symbol_table_below file (e_shnum file)

-- ---- why it is refused

unfoldable pub section_checks : List ℕ → List Check
section_checks file =
    if e_shnum file == 0 then []
    else (not (e_shentsize file == 40), SectionHeaderSize (e_shentsize file))
    ∷ (nat_lt (length file) (e_shoff file + 40 * e_shnum file), SectionHeadersCutShort)
    ∷ []

-- section s is the string table of section t: it is one of the sections, of type SHT_STRTAB, 3
abbrev pub is_string_table : List ℕ → ℕ → Bool
is_string_table file s = nat_lt s (e_shnum file) && (sh_type file s == 3)

-- the end of the string table of section t
abbrev pub strings_end : List ℕ → ℕ → ℕ
strings_end file t = sh_offset file (sh_link file t) + sh_size file (sh_link file t)

unfoldable pub string_checks : List ℕ → ℕ → List Check
string_checks file t =
    (not (sh_entsize file t == 16), SymbolSize (sh_entsize file t))
    ∷ (nat_lt (length file) (sh_offset file t + sh_size file t), SymbolTableCutShort)
    ∷ (not (is_string_table file (sh_link file t)), NoStringTable (sh_link file t))
    ∷ (nat_lt (length file) (strings_end file t), StringTableCutShort)
    ∷ (
      nat_lt 0 (sh_size file (sh_link file t))
          && not (slice_index file (strings_end file t - 1) == 0),
      StringTableNotEnded,
    )
    ∷ []

unfoldable pub name_check : List ℕ → ℕ → ℕ → List Check
name_check file t n =
    (nat_le (sh_size file (sh_link file t)) (st_name file t n), NameOutside n) ∷ []

-- the checks of the symbol table that is section t
abbrev pub table_checks_of : List ℕ → ℕ → List Check
table_checks_of file t =
    string_checks file t ++ checks_below (name_check file t) (symbol_count file t)

abbrev pub found_checks : List ℕ → Option ℕ → List Check
found_checks file None = []
found_checks file (Some t) = table_checks_of file t

abbrev pub symbol_checks : List ℕ → List Check
symbol_checks file = section_checks file ++ found_checks file (symbol_table file)

-- whether the symbol table that is section t is accepted
abbrev pub has_symbols : List ℕ → ℕ → Bool
has_symbols file t = is_ok (first_refusal (table_checks_of file t))

-- ---- names

-- the offset in the file at which the name of symbol n begins
abbrev pub name_start : List ℕ → ℕ → ℕ → ℕ
name_start file t n = sh_offset file (sh_link file t) + st_name file t n

-- the bytes from a place on, up to the first 0 and not past the stop
pub record IsText (file : List ℕ) (start stop : ℕ) (text : List ℕ) : Type 0 where
  pub within : start + length text ≤ stop
  pub bytes : (k : ℕ) → k < length text → slice_index text k ≡ slice_index file (start + k)
  pub no_zero : (k : ℕ) → k < length text → slice_index file (start + k) ≢ 0
  pub ended : start + length text < stop → slice_index file (start + length text) ≡ 0

-- such bytes with a 0 behind them: a string
pub record IsName (file : List ℕ) (start stop : ℕ) (name : List ℕ) : Type 0 where
  pub text : IsText file start stop name
  pub inside : start + length name < stop
