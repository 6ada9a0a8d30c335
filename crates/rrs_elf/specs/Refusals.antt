-- Why a file is refused: the checks in their order, each with the refusal that a file gets that
-- fails it. The header comes first (System V generic ABI, "ELF Header"), then each segment
-- ("Program Header"), then the entry.
use Rattle.std.specs.Prelude.{ℕ, zero, suc, ◌+◌, ◌*◌, ◌/◌, ◌%◌, ◌^◌, Bool, false, not, ◌&&◌, ◌||◌, ◌==◌, nat_le, nat_lt, min, max, if◌then◌else◌, List, [], ◌∷◌, ◌++◌, length, slice_index, Result, Ok, Err, is_ok}
use Rattle.rrs_elf.specs.declared.errors.ElfError.{ElfError}
use Rattle.rrs_elf.specs.declared.errors.ElfError.TheVariants.{NotElf, HeaderCutShort, Class, ByteOrder, IdentVersion, PositionIndependent, NotExecutable, Machine, Version, CompressedCode, FloatingPoint, Embedded, ProgramHeaderSize, TooManyProgramHeaders, ProgramHeadersCutShort, Interpreter, SegmentCutShort, SegmentSizes, SegmentPastLastAddress, SegmentsOverlap, EntryMisaligned, EntryOutside}
use Rattle.rrs_elf.specs.Headers.{e_ident_class, e_ident_data, e_ident_version, e_type, e_machine, e_version, e_entry, e_phoff, e_flags, e_phentsize, e_phnum, p_type, p_offset, p_vaddr, p_filesz, p_memsz, segment_start}
use Rattle.rrs_elf.specs.declared.code_units.CodeUnit.{CodeUnit}
use Rattle.rrs_elf.specs.declared.code_units.CodeUnit.TheVariants.{Word, HalfWord}
use Rattle.rrs_elf.specs.declared.program_headers.Addresses.{Addresses}
use Rattle.rrs_elf.specs.declared.program_headers.Addresses.TheVariants.{Virtual}
use Rattle.rrs_elf.specs.Executables.{PT_INTERP, PT_LOAD, bytes_of}

-- a check: whether the file fails it, and what it is then refused for
abbrev pub Check : Type 0
Check = Bool × ElfError

-- the first check that fails, if one does
abbrev pub first_refusal : List Check → Result (Unit {0}) ElfError
first_refusal [] = Ok tt
first_refusal (check ∷ checks) = if check.0 then Err check.1 else first_refusal checks

-- the checks of 0, of 1, and so on to those of n - 1
abbrev pub checks_below : (ℕ → List Check) → ℕ → List Check
checks_below checks zero = []
checks_below checks (suc n) = checks_below checks n ++ checks n

-- ---- the header

abbrev pub begins_as_elf : List ℕ → Bool
begins_as_elf file = (slice_index file 0 == 0x7f) && (slice_index file 1 == 0x45)
    && (slice_index file 2 == 0x4c) && (slice_index file 3 == 0x46)

unfoldable pub identification_checks : List ℕ → List Check
identification_checks file =
    (not (begins_as_elf file), NotElf)
    ∷ (nat_lt (length file) 52, HeaderCutShort)
    ∷ (not (e_ident_class file == 1), Class (e_ident_class file))
    ∷ (not (e_ident_data file == 1), ByteOrder (e_ident_data file))
    ∷ (not (e_ident_version file == 1), IdentVersion (e_ident_version file))
    ∷ []

unfoldable pub kind_checks : List ℕ → List Check
kind_checks file =
    (e_type file == 3, PositionIndependent)
    ∷ (not (e_type file == 2), NotExecutable (e_type file))
    ∷ (not (e_machine file == 243), Machine (e_machine file))
    ∷ (not (e_version file == 1), Version (e_version file))
    ∷ []

-- a machine whose instructions lie in such units lacks the compressed ones that the file may have
abbrev pub lacks_code : CodeUnit → List ℕ → Bool
lacks_code Word file = not (e_flags file % 2 == 0)
lacks_code HalfWord file = false

unfoldable pub flag_checks : CodeUnit → List ℕ → List Check
flag_checks unit file =
    (lacks_code unit file, CompressedCode)
    ∷ (not (e_flags file / 2 % 4 == 0), FloatingPoint)
    ∷ (not (e_flags file / 8 % 2 == 0), Embedded)
    ∷ []

unfoldable pub table_checks : List ℕ → List Check
table_checks file =
    (not (e_phentsize file == 32), ProgramHeaderSize (e_phentsize file))
    ∷ (nat_lt 256 (e_phnum file), TooManyProgramHeaders)
    ∷ (nat_lt (length file) (e_phoff file + 32 * e_phnum file), ProgramHeadersCutShort)
    ∷ []

-- ---- segments

abbrev pub is_loaded : List ℕ → ℕ → Bool
is_loaded file i = p_type file i == PT_LOAD

-- segment i has bytes in the file, and they end past its end
abbrev pub ends_past_file : List ℕ → ℕ → Bool
ends_past_file file i =
    nat_lt 0 (p_filesz file i) && nat_lt (length file) (p_offset file i + p_filesz file i)

-- segments j and i are loaded, and the later of their starts is before the earlier of their ends
abbrev pub overlap : Addresses → List ℕ → ℕ → ℕ → Bool
overlap at file j i = is_loaded file j && is_loaded file i
    && nat_lt (max (segment_start at file j) (segment_start at file i))
    (min (segment_start at file j + p_memsz file j) (segment_start at file i + p_memsz file i))

unfoldable pub place_checks : Addresses → List ℕ → ℕ → List Check
place_checks at file i =
    (p_type file i == PT_INTERP, Interpreter i)
    ∷ (is_loaded file i && ends_past_file file i, SegmentCutShort i)
    ∷ (is_loaded file i && nat_lt (p_memsz file i) (p_filesz file i), SegmentSizes i)
    ∷ (
      is_loaded file i && nat_lt (2 ^ 32) (segment_start at file i + p_memsz file i),
      SegmentPastLastAddress i,
    )
    ∷ []

unfoldable pub overlap_check : Addresses → List ℕ → ℕ → ℕ → List Check
overlap_check at file i j = (overlap at file j i, SegmentsOverlap j i) ∷ []

-- segment i by itself, and then with each before it
abbrev pub segment_checks : Addresses → List ℕ → ℕ → List Check
segment_checks at file i = place_checks at file i ++ checks_below (overlap_check at file i) i

-- ---- the entry

abbrev pub has_address : List ℕ → ℕ → ℕ → Bool
has_address file i address = is_loaded file i
    && nat_le (p_vaddr file i) address && nat_lt address (p_vaddr file i + p_memsz file i)

-- one of the first n segments has the address
abbrev pub one_has_address : List ℕ → ℕ → ℕ → Bool
one_has_address file zero address = false
one_has_address file (suc n) address =
    one_has_address file n address || has_address file n address

unfoldable pub entry_checks : CodeUnit → List ℕ → List Check
entry_checks unit file =
    (not (e_entry file % bytes_of unit == 0), EntryMisaligned (e_entry file))
    ∷ (not (one_has_address file (e_phnum file) (e_entry file)), EntryOutside (e_entry file))
    ∷ []

-- ---- all of them

-- for a machine whose instructions lie in such units, and segments that are loaded at these of
-- their addresses
abbrev pub checks_in : CodeUnit → Addresses → List ℕ → List Check
checks_in unit at file = identification_checks file ++ (kind_checks file ++ (flag_checks unit file
    ++ (table_checks file ++ (checks_below (segment_checks at file) (e_phnum file)
    ++ entry_checks unit file))))

-- for a machine without compressed code
abbrev pub checks_at : Addresses → List ℕ → List Check
checks_at at file = checks_in Word at file

abbrev pub checks : List ℕ → List Check
checks file = checks_at Virtual file

-- whether a file is accepted
abbrev pub is_accepted : CodeUnit → Addresses → List ℕ → Bool
is_accepted unit at file = is_ok (first_refusal (checks_in unit at file))
