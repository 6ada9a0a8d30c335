-- A section header (System V generic ABI, "Sections") as the code has it.
use Rattle.std.specs.Prelude.{◌≡◌, ℕ, List}
use Rattle.rrs_elf.specs.declared.sections.Section.{Section}
use Rattle.rrs_elf.specs.SymbolTables.{sh_type, sh_offset, sh_size, sh_link, sh_entsize}

-- this is section s
pub record IsSection (file : List ℕ) (s : ℕ) (header : Section) : Type 0 where
  pub type_is : header.kind ≡ sh_type file s
  pub offset_is : header.offset ≡ sh_offset file s
  pub size_is : header.size ≡ sh_size file s
  pub link_is : header.link ≡ sh_link file s
  pub entry_size_is : header.entry_size ≡ sh_entsize file s
