-- A program header (System V generic ABI, "Program Header") as the code has it.
use Rattle.std.specs.Prelude.{◌≡◌, ℕ, List}
use Rattle.rrs_elf.specs.declared.program_headers.ProgramHeader.{ProgramHeader}
use Rattle.rrs_elf.specs.Headers.{p_type, p_offset, p_vaddr, p_paddr, p_filesz, p_memsz, p_flags, p_align}

-- this is the program header of segment i
pub record IsProgramHeader (file : List ℕ) (i : ℕ) (header : ProgramHeader) : Type 0 where
  pub type_is : header.kind ≡ p_type file i
  pub offset_is : header.offset ≡ p_offset file i
  pub address_is : header.address ≡ p_vaddr file i
  pub physical_address_is : header.physical_address ≡ p_paddr file i
  pub file_size_is : header.file_size ≡ p_filesz file i
  pub memory_size_is : header.memory_size ≡ p_memsz file i
  pub flags_are : header.flags ≡ p_flags file i
  pub alignment_is : header.alignment ≡ p_align file i
