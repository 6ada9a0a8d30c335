-- An executable in the ELF format, as C has it: the bytes of a file, which the caller has.
use Rattle.std.specs.Prelude.{◌≡◌, ℕ, ◌+◌, ◌<◌, Bool, false, if◌then◌else◌, List, length, Some, None, Err}
use Rattle.rrs_lib.specs.Bytes.{ByteMap}
use Rattle.rrs_lib.specs.SliceBytes.{bytes_from, lies_from}
use Rattle.rrs_elf.specs.Headers.{e_entry, e_phnum, p_vaddr, p_memsz, p_offset, p_filesz, p_flags, segment_start}
use Rattle.rrs_elf.specs.declared.code_units.CodeUnit.{CodeUnit}
use Rattle.rrs_elf.specs.declared.code_units.CodeUnit.TheVariants.{Word, HalfWord}
use Rattle.rrs_elf.specs.declared.program_headers.Addresses.{Addresses}
use Rattle.rrs_elf.specs.declared.program_headers.Addresses.TheVariants.{Virtual}
use Rattle.rrs_elf.specs.Executables.{IsExecutableIn, IsLoaded}
use Rattle.rrs_elf.specs.Loading.{Stands, loaded_size}
use Rattle.rrs_elf.specs.Refusals.{first_refusal, checks_in}
use Rattle.rrs_elf.specs.SymbolTables.{symbol_table, symbol_checks, name_start, strings_end, IsName}
use Rattle.rrs_elf.specs.Symbols.{Finds}
use Rattle.rrs_elf.specs.declared.locations.Location.{Location}
use Rattle.rrs_elf.specs.declared.errors.ElfError.{ElfError}
use Rattle.rrs_elf.specs.declared.errors.ElfError.TheVariants as ElfError
use Rattle.rrs_words.specs.declared.csrs.HartProfile.{HartProfile}
use Rattle.rrs_c.specs.declared.elf.RrsElf.{RrsElf}
use Rattle.rrs_c.specs.declared.elf.RrsSegment.{RrsSegment}
use Rattle.rrs_c.specs.declared.elf.RrsLoaded.{RrsLoaded}
use Rattle.rrs_c.specs.declared.elf.RrsLocation.{RrsLocation}
use Rattle.rrs_c.specs.Buffers.{with_text}

-- ---- what a file is

-- what the instructions of a hart lie in
abbrev pub unit_for : HartProfile → CodeUnit
unit_for p = if p.compressed then HalfWord else Word

-- an executable for a hart, at its virtual addresses
abbrev pub IsExecutableFor : HartProfile → List ℕ → Type 0
IsExecutableFor p file = IsExecutableIn (unit_for p) Virtual file

-- an executable that may have compressed code: one for some hart
abbrev pub IsForSomeHart : List ℕ → Type 0
IsForSomeHart file = IsExecutableIn HalfWord Virtual file

-- an executable, with its entry and the number of its segments
abbrev pub accepted_elf : List ℕ → RrsElf
accepted_elf file =
    record { refusal = 0; number = 0; other = 0; entry = e_entry file; segments = e_phnum file }

-- a refusal by its number, with the numbers that it tells, or 0
abbrev pub told : ℕ → ℕ → ℕ → RrsElf
told refusal number other =
    record { refusal = refusal; number = number; other = other; entry = 0; segments = 0 }

-- the refusals, numbered from 1 on in the order of ElfError
abbrev pub refused_elf : ElfError → RrsElf
refused_elf ElfError.NotElf = told 1 0 0
refused_elf ElfError.HeaderCutShort = told 2 0 0
refused_elf (ElfError.Class class) = told 3 class 0
refused_elf (ElfError.ByteOrder order) = told 4 order 0
refused_elf (ElfError.IdentVersion version) = told 5 version 0
refused_elf ElfError.PositionIndependent = told 6 0 0
refused_elf (ElfError.NotExecutable kind) = told 7 kind 0
refused_elf (ElfError.Machine machine) = told 8 machine 0
refused_elf (ElfError.Version version) = told 9 version 0
refused_elf ElfError.CompressedCode = told 10 0 0
refused_elf ElfError.FloatingPoint = told 11 0 0
refused_elf ElfError.Embedded = told 12 0 0
refused_elf (ElfError.ProgramHeaderSize size) = told 13 size 0
refused_elf ElfError.TooManyProgramHeaders = told 14 0 0
refused_elf ElfError.ProgramHeadersCutShort = told 15 0 0
refused_elf (ElfError.Interpreter i) = told 16 i 0
refused_elf (ElfError.SegmentCutShort i) = told 17 i 0
refused_elf (ElfError.SegmentSizes i) = told 18 i 0
refused_elf (ElfError.SegmentPastLastAddress i) = told 19 i 0
refused_elf (ElfError.SegmentsOverlap j i) = told 20 j i
refused_elf (ElfError.EntryMisaligned entry) = told 21 entry 0
refused_elf (ElfError.EntryOutside entry) = told 22 entry 0
refused_elf (ElfError.SectionHeaderSize size) = told 23 size 0
refused_elf ElfError.SectionHeadersCutShort = told 24 0 0
refused_elf (ElfError.SymbolSize size) = told 25 size 0
refused_elf ElfError.SymbolTableCutShort = told 26 0 0
refused_elf (ElfError.NoStringTable link) = told 27 link 0
refused_elf ElfError.StringTableCutShort = told 28 0 0
refused_elf ElfError.StringTableNotEnded = told 29 0 0
refused_elf (ElfError.NameOutside n) = told 30 n 0

-- ---- a segment

abbrev pub no_segment : RrsSegment
no_segment = record {
  loaded = 0;
  address = 0;
  memory_size = 0;
  offset = 0;
  file_size = 0;
  flags = 0;
}

abbrev pub loaded_segment : List ℕ → ℕ → RrsSegment
loaded_segment file i = record {
  loaded = 1;
  address = p_vaddr file i;
  memory_size = p_memsz file i;
  offset = p_offset file i;
  file_size = p_filesz file i;
  flags = p_flags file i;
}

-- segment i of an executable, if it is loaded
pub data SegmentIn (file : List ℕ) (i : ℕ) (r : RrsSegment) : Type 0 where
  IsThere :
      IsForSomeHart file → IsLoaded file i → r ≡ loaded_segment file i
      → SegmentIn file i r
  IsNone :
      (IsForSomeHart file → IsLoaded file i → ⊥) → r ≡ no_segment
      → SegmentIn file i r

-- ---- a load

-- a load stopped at an address that is not writable, that of byte k of segment n, and what comes
-- before it stands
pub record StopsIn (at : Addresses) (file : List ℕ) (old new : ByteMap) (writable : ℕ → Bool)
    (address : ℕ) : Type 0 where
  pub n : ℕ
  pub k : ℕ
  pub numbered : n < e_phnum file
  pub within : k < loaded_size file n
  pub here : address ≡ segment_start at file n + k
  pub not_writable : writable address ≡ false
  pub stands : Stands at file old new writable n k

-- An executable for a machine whose instructions lie in such units is loaded into words from a base
-- on, its segments at these of their addresses.
pub data LoadsElf (unit : CodeUnit) (at : Addresses) (file old new : List ℕ) (base : ℕ)
    (r : RrsLoaded) : Type 0 where
  -- each segment stands there
  IsWhole :
      IsExecutableIn unit at file
      → Stands at file (bytes_from base old) (bytes_from base new) (lies_from base old)
      (e_phnum file) 0
      → r ≡ record { refusal = 0; address = 0 }
      → LoadsElf unit at file old new base r
  -- an address is not in the words: refusal 31
  IsStopped :
      IsExecutableIn unit at file
      → StopsIn at file (bytes_from base old) (bytes_from base new) (lies_from base old) r.address
      → r.refusal ≡ 31
      → LoadsElf unit at file old new base r
  -- the file is refused
  IsRefused : (error : ElfError)
      → first_refusal (checks_in unit at file) ≡ Err error → new ≡ old
      → r ≡ record { refusal = (refused_elf error).refusal; address = 0 }
      → LoadsElf unit at file old new base r

-- ---- a function

-- why no function is found at an address: the file is no executable, it has no symbol table or one
-- that can't be read, or no function or label is there
pub data FindsNone (file : List ℕ) (address : ℕ) : Type 0 where
  IsNoExecutable : (IsForSomeHart file → ⊥) → FindsNone file address
  IsUnreadable : (error : ElfError)
      → first_refusal (symbol_checks file) ≡ Err error → FindsNone file address
  HasNoSymbols : symbol_table file ≡ None → FindsNone file address
  IsNowhere : (t : ℕ)
      → symbol_table file ≡ Some t → Finds file t address None → FindsNone file address

-- what is found at an address, and its name
pub record Locates (file : List ℕ) (address : ℕ) (at : Location) (name : List ℕ) : Type 0 where
  pub executable : IsForSomeHart file
  pub table : ℕ
  pub table_is : symbol_table file ≡ Some table
  pub finds : Finds file table address (Some at)
  pub named : IsName file (name_start file table at.symbol) (strings_end file table) name

abbrev pub location_of : Location → List ℕ → RrsLocation
location_of at name = record {
  found = if at.is_inside then 1 else 2;
  distance = at.distance;
  length = length name;
}

-- The function at an address is told, and its name is put into a buffer.
pub data FindsFunction (file : List ℕ) (address : ℕ) (old new : List ℕ) (r : RrsLocation)
    : Type 0 where
  IsFound : (at : Location) (name : List ℕ)
      → Locates file address at name → r ≡ location_of at name → new ≡ with_text name old
      → FindsFunction file address old new r
  IsNotFound :
      FindsNone file address → r ≡ record { found = 0; distance = 0; length = 0 } → new ≡ old
      → FindsFunction file address old new r
