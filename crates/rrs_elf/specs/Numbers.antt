-- Numbers in a file (System V generic ABI, "ELF Header", "Data Encoding"): with ELFDATA2LSB the
-- lowest byte of a number comes first. Elf32_Half has 2 bytes, and Elf32_Word, Elf32_Addr and
-- Elf32_Off have 4. A byte past the end of the file counts as 0 here: no file that is accepted has
-- a header there.
use Rattle.std.specs.Prelude.{ℕ, ◌+◌, ◌*◌, List, slice_index}

-- the number of 2 bytes at an offset
unfoldable pub half : List ℕ → ℕ → ℕ
half file at = slice_index file at + 256 * slice_index file (at + 1)

-- the number of 4 bytes at an offset
unfoldable pub word : List ℕ → ℕ → ℕ
word file at = half file at + 65536 * half file (at + 2)
