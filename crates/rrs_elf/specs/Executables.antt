-- An executable for this machine (System V generic ABI, "ELF Header" and "Program Header"; RISC-V
-- ELF psABI, "ELF Object Files", "File Header"): 32 bits, lowest byte first, linked to fixed
-- addresses, for RV32I with M, and with C where the machine has it, and the integer calling
-- convention.
use Rattle.std.specs.Prelude.{◌≡◌, ◌≢◌, ℕ, ◌+◌, ◌*◌, ◌/◌, ◌%◌, ◌^◌, ◌<◌, ◌≤◌, List, length, slice_index}
use Rattle.rrs_elf.specs.Headers.{e_ident_class, e_ident_data, e_ident_version, e_type, e_machine, e_version, e_entry, e_phoff, e_flags, e_phentsize, e_phnum, p_type, p_offset, p_filesz, p_memsz, segment_start}
use Rattle.rrs_elf.specs.declared.code_units.CodeUnit.{CodeUnit}
use Rattle.rrs_elf.specs.declared.code_units.CodeUnit.TheVariants.{Word, HalfWord}
use Rattle.rrs_elf.specs.declared.program_headers.Addresses.{Addresses}
use Rattle.rrs_elf.specs.declared.program_headers.Addresses.TheVariants.{Virtual}

-- PT_INTERP, the type of a segment with the name of a program that loads this one
abbrev pub PT_INTERP : ℕ
PT_INTERP = 3

-- PT_LOAD, the type of a segment that is loaded
abbrev pub PT_LOAD : ℕ
PT_LOAD = 1

-- segment i is one of those that are loaded
pub record IsLoaded (file : List ℕ) (i : ℕ) : Type 0 where
  pub numbered : i < e_phnum file
  pub of_type : p_type file i ≡ PT_LOAD

-- segment i is loaded, and the address is one of the p_memsz addresses from where it begins on
pub record HasAddress (at : Addresses) (file : List ℕ) (i address : ℕ) : Type 0 where
  pub loaded : IsLoaded file i
  pub from_start : segment_start at file i ≤ address
  pub before_end : address < segment_start at file i + p_memsz file i

-- how many bytes a unit has: IALIGN / 8 (RISC-V unprivileged specification, "Base
-- Instruction-Length Encoding")
abbrev pub bytes_of : CodeUnit → ℕ
bytes_of Word = 4
bytes_of HalfWord = 2

-- A machine whose instructions lie in such units has those of the file. EF_RISCV_RVC (bit 0) is
-- set where some may be compressed, which lie in half-words.
abbrev pub HasCodeIn : CodeUnit → List ℕ → Type 0
HasCodeIn Word file = e_flags file % 2 ≡ 0
HasCodeIn HalfWord file = Unit

-- An executable for a machine whose instructions lie in such units. Its segments are loaded at
-- these of their addresses.
pub record IsExecutableIn (unit : CodeUnit) (at : Addresses) (file : List ℕ) : Type 0 where
  -- the whole ELF header, which begins with 0x7f and "ELF"
  pub whole : 52 ≤ length file
  pub magic : (slice_index file 0 ≡ 0x7f) × (slice_index file 1 ≡ 0x45)
      × (slice_index file 2 ≡ 0x4c) × (slice_index file 3 ≡ 0x46)
  -- ELFCLASS32, ELFDATA2LSB, EV_CURRENT
  pub class_32 : e_ident_class file ≡ 1
  pub lowest_byte_first : e_ident_data file ≡ 1
  pub ident_version : e_ident_version file ≡ 1
  -- ET_EXEC, EM_RISCV, EV_CURRENT
  pub executable : e_type file ≡ 2
  pub risc_v : e_machine file ≡ 243
  pub version : e_version file ≡ 1
  -- code that the machine has, no floating-point ABI (bits 1 and 2), and no EF_RISCV_RVE (bit 3)
  pub code : HasCodeIn unit file
  pub integers_only : e_flags file / 2 % 4 ≡ 0
  pub all_registers : e_flags file / 8 % 2 ≡ 0
  -- program headers of 32 bytes, 256 at most, all of them in the file
  pub header_size : e_phentsize file ≡ 32
  pub counted : e_phnum file ≤ 256
  pub headers_within : e_phoff file + 32 * e_phnum file ≤ length file
  -- it loads itself
  pub no_interpreter : (i : ℕ) → i < e_phnum file → p_type file i ≢ PT_INTERP
  -- the bytes of each loaded segment are bytes of the file, and all have room in memory
  pub bytes_within : (i k : ℕ) → IsLoaded file i → k < p_filesz file i
      → p_offset file i + k < length file
  pub sizes : (i : ℕ) → IsLoaded file i → p_filesz file i ≤ p_memsz file i
  -- addresses end at 2 ^ 32
  pub addresses : (i : ℕ) → IsLoaded file i → segment_start at file i + p_memsz file i ≤ 2 ^ 32
  -- no address is one of two segments
  pub apart : (i j address : ℕ)
      → HasAddress at file i address → HasAddress at file j address → i ≡ j
  -- the entry is the virtual address of an instruction, in one of the segments
  pub entry_aligned : e_entry file % bytes_of unit ≡ 0
  pub entry_inside : (i : ℕ) × HasAddress Virtual file i (e_entry file)

-- one for a machine without compressed code
abbrev pub IsExecutableAt : Addresses → List ℕ → Type 0
IsExecutableAt at file = IsExecutableIn Word at file

-- one whose segments are loaded at their virtual addresses, as those of a process
abbrev pub IsExecutable : List ℕ → Type 0
IsExecutable file = IsExecutableAt Virtual file
