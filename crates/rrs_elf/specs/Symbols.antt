-- A symbol as the code has it, and which function or label an address lies in (System V generic
-- ABI, "Symbol Table"; RISC-V ELF psABI, "Mapping Symbol").
use Rattle.std.specs.Prelude.{◌≡◌, ℕ, zero, suc, ◌+◌, ◌<◌, ◌≤◌, ◌%◌, Bool, true, false, not, ◌&&◌, ◌||◌, ◌==◌, nat_le, nat_lt, if◌then◌else◌, List, slice_index, Option, Some, None}
use Rattle.std.specs.Bool.{OnTrue, OnFalse}
use Rattle.std.specs.Option.{option_or, option_map_or}
use Rattle.rrs_elf.specs.declared.symbol_table.Symbol.{Symbol}
use Rattle.rrs_elf.specs.declared.locations.Location.{Location}
use Rattle.rrs_elf.specs.Headers.{e_phnum, p_vaddr}
use Rattle.rrs_elf.specs.Refusals.{has_address}
use Rattle.rrs_elf.specs.SymbolTables.{st_value, st_size, st_info, st_other, st_shndx, name_start, symbol_count}

-- this is symbol n of section t
pub record IsSymbol (file : List ℕ) (t n : ℕ) (symbol : Symbol) : Type 0 where
  pub value_is : symbol.value ≡ st_value file t n
  pub size_is : symbol.size ≡ st_size file t n
  pub info_is : symbol.info ≡ st_info file t n
  pub other_is : symbol.other ≡ st_other file t n
  pub section_is : symbol.section ≡ st_shndx file t n

-- ---- functions and labels

-- the symbol is defined in a section: its st_shndx is neither SHN_UNDEF nor a reserved one
abbrev pub is_defined : List ℕ → ℕ → ℕ → Bool
is_defined file t n = nat_lt 0 (st_shndx file t n) && nat_lt (st_shndx file t n) 0xff00

-- STT_FUNC, 2
abbrev pub is_function : List ℕ → ℕ → ℕ → Bool
is_function file t n = (st_info file t n % 16 == 2) && is_defined file t n

-- A label of assembly has STT_NOTYPE, 0. A mapping symbol has it too, and a name that begins with
-- $.
abbrev pub is_label : List ℕ → ℕ → ℕ → Bool
is_label file t n = (st_info file t n % 16 == 0) && is_defined file t n
    && not (slice_index file (name_start file t n) == 0x24)

-- the symbol is a function, and the address is one of the st_size from st_value on
abbrev pub covers : List ℕ → ℕ → ℕ → ℕ → Bool
covers file t n address = is_function file t n && nat_le (st_value file t n) address
    && nat_lt address (st_value file t n + st_size file t n)

-- the first of the first n segments that has the address
abbrev pub segment_below : List ℕ → ℕ → ℕ → Option ℕ
segment_below file address zero = None
segment_below file address (suc n) = option_or (segment_below file address n)
    (if has_address file n address then Some n else None)

-- the symbol is a function or a label at the address or before it, in the segment of the address
abbrev pub is_before : List ℕ → ℕ → ℕ → ℕ → Bool
is_before file t address n =
    option_map_or (λ i. (is_function file t n || is_label file t n)
    && nat_le (p_vaddr file i) (st_value file t n) && nat_le (st_value file t n) address)
    (segment_below file address (e_phnum file)) false

-- no symbol covers the address
abbrev pub NoneCovers : List ℕ → ℕ → ℕ → Type 0
NoneCovers file t address =
    (n : ℕ) → n < symbol_count file t → covers file t n address ≡ false

-- Of the first n symbols this is one before the address, and none before it is nearer. Of those at
-- one address it has the most bytes, and it is the first that has as many.
pub record IsNearest (file : List ℕ) (t address n nearest : ℕ) : Type 0 where
  pub numbered : nearest < n
  pub before : is_before file t address nearest ≡ true
  pub none_nearer : (m : ℕ) → m < n → is_before file t address m ≡ true
      → st_value file t m ≤ st_value file t nearest
  pub most_bytes : (m : ℕ) → m < n → is_before file t address m ≡ true
      → st_value file t m ≡ st_value file t nearest → st_size file t m ≤ st_size file t nearest
  pub first : (m : ℕ) → m < nearest → is_before file t address m ≡ true
      → st_value file t m ≡ st_value file t nearest → st_size file t m < st_size file t nearest

-- the nearest of the first n symbols, or none where none of them is before the address
abbrev pub IsNearestBelow : List ℕ → ℕ → ℕ → ℕ → Option ℕ → Type 0
IsNearestBelow file t address n None = (m : ℕ) → m < n → is_before file t address m ≡ false
IsNearestBelow file t address n (Some nearest) = IsNearest file t address n nearest

-- What is found at an address: a function that covers it; or, where none does, the nearest function
-- or label before it; or nothing, where there is none of these.
abbrev pub Finds : List ℕ → ℕ → ℕ → Option Location → Type 0
Finds file t address None =
    NoneCovers file t address × IsNearestBelow file t address (symbol_count file t) None
Finds file t address (Some at) = (at.symbol < symbol_count file t)
    × (st_value file t at.symbol + at.distance ≡ address)
    × OnTrue at.is_inside (covers file t at.symbol address ≡ true)
    × OnFalse at.is_inside (NoneCovers file t address
    × IsNearest file t address (symbol_count file t) at.symbol)
