-- The executable of a program (System V generic ABI, "Program Header", PT_LOAD): which section each
-- segment is, where the program begins (GNU linker manual, "Entry Point"), and whether it has
-- compressed code (RISC-V ELF psABI, "File Header", EF_RISCV_RVC).
use Rattle.std.specs.Prelude.{◌≡◌, ℕ, ◌+◌, ◌%◌, ◌<◌, Bool, ◌||◌, if◌then◌else◌, List, [], ◌∷◌, length, codes, slice_index, Option, Some, None}
use Rattle.std.specs.List.{list_any}
use Rattle.std.specs.Option.{option_or}
use Rattle.std.specs.Str.{bytes_eq}
use Rattle.rrs_asm.specs.declared.output.Label.{Label}
use Rattle.rrs_asm.specs.declared.sections.Section.{Section}
use Rattle.rrs_asm.specs.declared.sections.SectionKind.{SectionKind}
use Rattle.rrs_asm.specs.Source.{is_empty}
use Rattle.rrs_asm.specs.Sections.{with_bytes}
use Rattle.rrs_asm.specs.Statements.{is_short}
use Rattle.rrs_elf.specs.declared.code_units.CodeUnit.{CodeUnit}
use Rattle.rrs_elf.specs.declared.program_headers.Addresses.{Addresses}
use Rattle.rrs_elf.specs.Headers.{e_phnum, e_entry, e_flags, p_vaddr, p_memsz, p_flags}
use Rattle.rrs_elf.specs.Executables.{IsLoaded, IsExecutableIn}
use Rattle.rrs_elf.specs.Loading.{segment_byte}

-- ---- segments

-- PF_R and PF_X for what is not written, PF_R and PF_W for what is
abbrev pub rights_of : SectionKind → ℕ
rights_of SectionKind.Code = 5
rights_of SectionKind.ReadOnly = 5
rights_of SectionKind.Data = 6
rights_of SectionKind.Zero = 6

-- Segment k is this section: it is loaded to the address of the section, and has its bytes and no
-- others.
pub record IsSegment {A : Type 0} (file : List ℕ) (k : ℕ) (s : Section A) : Type 0 where
  pub loaded : IsLoaded file k
  pub address : p_vaddr file k ≡ s.address
  pub size : p_memsz file k ≡ length s.made.bytes.items
  pub rights : p_flags file k ≡ rights_of s.kind
  pub bytes : (i : ℕ) → i < length s.made.bytes.items
      → segment_byte file k i ≡ slice_index s.made.bytes.items i

-- the segments from number k on are these sections, and there are no others
abbrev pub AreSegments : {A : Type 0} → List ℕ → ℕ → List (Section A) → Type 0
AreSegments file k [] = e_phnum file ≡ k
AreSegments file k (s ∷ others) = IsSegment file k s × AreSegments file (k + 1) others

-- ---- the entry

-- the address of the first label of a name
abbrev pub address_in : List ℕ → List Label → Option ℕ
address_in name [] = None
address_in name (l ∷ others) =
    if bytes_eq l.name.now name then Some l.address else address_in name others

abbrev pub address_of : {A : Type 0} → List ℕ → List (Section A) → Option ℕ
address_of name [] = None
address_of name (s ∷ others) =
    option_or (address_in name s.made.labels.items) (address_of name others)

-- the address of the first byte
abbrev pub first_address : {A : Type 0} → List (Section A) → Option ℕ
first_address [] = None
first_address (s ∷ others) =
    if is_empty s.made.bytes.items then first_address others else Some s.address

-- A program begins at `_start`, where there is no such label at `main`, and where there is neither
-- at its first byte.
abbrev pub entry_of : {A : Type 0} → List (Section A) → Option ℕ
entry_of sections = option_or (address_of (codes "_start") sections)
    (option_or (address_of (codes "main") sections) (first_address sections))

-- ---- compressed code

-- a section has compressed instructions, or `.option rvc` says that it can
abbrev pub has_compressed : {A : Type 0} → Section A → Bool
has_compressed s = s.takes_compressed || list_any (λ p. is_short p.statement) s.made.placed.items

-- what the instructions of sections lie in
abbrev pub unit_of : {A : Type 0} → List (Section A) → CodeUnit
unit_of [] = CodeUnit.Word
unit_of (s ∷ others) = if has_compressed s then CodeUnit.HalfWord else unit_of others

-- ---- all of it

-- the file is the executable of these sections
pub record IsExecutableOf {A : Type 0} (sections : List (Section A)) (file : List ℕ) : Type 0 where
  pub executable : IsExecutableIn (unit_of sections) Addresses.Virtual file
  -- EF_RISCV_RVC
  pub marked : unit_of sections ≡ CodeUnit.HalfWord → e_flags file % 2 ≡ 1
  pub entry : entry_of sections ≡ Some (e_entry file)
  pub segments : AreSegments file 0 (with_bytes sections)
