-- The fields of the headers, by their offsets and with the names that the System V generic ABI
-- gives them in "ELF Header" (Elf32_Ehdr, 52 bytes at the file's start) and "Program Header"
-- (Elf32_Phdr).
use Rattle.std.specs.Prelude.{ℕ, ◌+◌, ◌*◌, List, slice_index}
use Rattle.rrs_elf.specs.Numbers.{half, word}
use Rattle.rrs_elf.specs.declared.program_headers.Addresses.{Addresses}
use Rattle.rrs_elf.specs.declared.program_headers.Addresses.TheVariants.{Virtual, Physical}

-- ---- the ELF header

abbrev pub e_ident_class : List ℕ → ℕ
e_ident_class file = slice_index file 4

abbrev pub e_ident_data : List ℕ → ℕ
e_ident_data file = slice_index file 5

abbrev pub e_ident_version : List ℕ → ℕ
e_ident_version file = slice_index file 6

abbrev pub e_type : List ℕ → ℕ
e_type file = half file 16

abbrev pub e_machine : List ℕ → ℕ
e_machine file = half file 18

abbrev pub e_version : List ℕ → ℕ
e_version file = word file 20

abbrev pub e_entry : List ℕ → ℕ
e_entry file = word file 24

abbrev pub e_phoff : List ℕ → ℕ
e_phoff file = word file 28

abbrev pub e_shoff : List ℕ → ℕ
e_shoff file = word file 32

abbrev pub e_flags : List ℕ → ℕ
e_flags file = word file 36

abbrev pub e_phentsize : List ℕ → ℕ
e_phentsize file = half file 42

abbrev pub e_phnum : List ℕ → ℕ
e_phnum file = half file 44

abbrev pub e_shentsize : List ℕ → ℕ
e_shentsize file = half file 46

abbrev pub e_shnum : List ℕ → ℕ
e_shnum file = half file 48

-- ---- the program header of segment i: 32 bytes, one header after another from e_phoff on

abbrev pub program_header_start : List ℕ → ℕ → ℕ
program_header_start file i = e_phoff file + 32 * i

abbrev pub p_type : List ℕ → ℕ → ℕ
p_type file i = word file (program_header_start file i)

abbrev pub p_offset : List ℕ → ℕ → ℕ
p_offset file i = word file (program_header_start file i + 4)

abbrev pub p_vaddr : List ℕ → ℕ → ℕ
p_vaddr file i = word file (program_header_start file i + 8)

abbrev pub p_paddr : List ℕ → ℕ → ℕ
p_paddr file i = word file (program_header_start file i + 12)

abbrev pub p_filesz : List ℕ → ℕ → ℕ
p_filesz file i = word file (program_header_start file i + 16)

abbrev pub p_memsz : List ℕ → ℕ → ℕ
p_memsz file i = word file (program_header_start file i + 20)

abbrev pub p_flags : List ℕ → ℕ → ℕ
p_flags file i = word file (program_header_start file i + 24)

abbrev pub p_align : List ℕ → ℕ → ℕ
p_align file i = word file (program_header_start file i + 28)

-- where segment i begins, by which of its two addresses is meant
abbrev pub segment_start : Addresses → List ℕ → ℕ → ℕ
segment_start Virtual file i = p_vaddr file i
segment_start Physical file i = p_paddr file i
