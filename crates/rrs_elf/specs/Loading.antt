-- What a load leaves (System V generic ABI, "Program Header", PT_LOAD): "The bytes from the file
-- are mapped to the beginning of the memory segment. If the segment's memory size is larger than
-- the file size, the extra bytes are defined to hold the value 0." And which accesses it makes. A
-- segment is loaded at its virtual address, p_vaddr, or "on systems for which physical addressing
-- is relevant" at its physical one, p_paddr.
use Rattle.std.specs.Prelude.{◌≡◌, ◌≢◌, ◌==◌, ℕ, zero, suc, ◌+◌, ◌<◌, Bool, true, false, ◌&&◌, nat_le, nat_lt, if◌then◌else◌, List, [], ◌∷◌, ◌++◌, slice_index, Option, Some, is_some}
use Rattle.rrs_memory.specs.declared.MemAccessSize.{MemAccessSize}
use Rattle.rrs_memory.specs.Bytes.{ByteMap}
use Rattle.rrs_memory.specs.AccessLists.{Access, Makes}
use Rattle.rrs_memory.specs.Loading.{byte_writes}
use Rattle.rrs_elf.specs.Headers.{e_phnum, p_type, p_offset, p_filesz, p_memsz, segment_start}
use Rattle.rrs_elf.specs.declared.program_headers.Addresses.{Addresses}
use Rattle.rrs_elf.specs.Executables.{PT_LOAD}

-- the byte that segment i has at its k-th address: one of the file, or 0 behind them
abbrev pub segment_byte : List ℕ → ℕ → ℕ → ℕ
segment_byte file i k =
    if nat_lt k (p_filesz file i) then slice_index file (p_offset file i + k) else 0

-- the first n of these bytes
abbrev pub segment_bytes : List ℕ → ℕ → ℕ → List ℕ
segment_bytes file i zero = []
segment_bytes file i (suc n) = segment_bytes file i n ++ segment_byte file i n ∷ []

-- how many bytes of segment i are loaded: all that it has in memory, or none
abbrev pub loaded_size : List ℕ → ℕ → ℕ
loaded_size file i = if p_type file i == PT_LOAD then p_memsz file i else 0

-- The memory has the first n segments, and the first k bytes of segment n, at addresses that are
-- writable. All other bytes are as before.
pub record Stands (at : Addresses) (file : List ℕ) (old new : ByteMap) (writable : ℕ → Bool)
    (n k : ℕ) : Type 0 where
  pub segments : (i j : ℕ) → i < n → j < loaded_size file i
      → new (segment_start at file i + j) ≡ Some (segment_byte file i j)
  pub part : (j : ℕ) → j < k → new (segment_start at file n + j) ≡ Some (segment_byte file n j)
  pub segments_writable : (i j : ℕ) → i < n → j < loaded_size file i
      → writable (segment_start at file i + j) ≡ true
  pub part_writable : (j : ℕ) → j < k → writable (segment_start at file n + j) ≡ true
  pub others : (a : ℕ)
      → ((i j : ℕ) → i < n → j < loaded_size file i → a ≢ segment_start at file i + j)
      → ((j : ℕ) → j < k → a ≢ segment_start at file n + j) → new a ≡ old a
  pub mapped : (a : ℕ) → is_some (new a) ≡ is_some (old a)

-- One write for each byte of the first n segments, segment by segment and in the order of the
-- addresses, with the answers that the laws of a memory give them.
abbrev pub segment_writes : Addresses → (ℕ → Bool) → List ℕ → ℕ → List Access
segment_writes at writable file zero = []
segment_writes at writable file (suc n) = segment_writes at writable file n
    ++ byte_writes writable (segment_start at file n) (segment_bytes file n (loaded_size file n))

-- By what a memory of type M says of its reads and its writes: a load took it from old to new, and
-- ended at an address that is not writable, that of byte k of segment n. What comes before stands,
-- and one write for each of these bytes was made, and the one that was refused.
pub record StopsAt {M : Type 0}
    (reads : M → ℕ → MemAccessSize → M → Option ℕ → Type 0)
    (writes : M → ℕ → MemAccessSize → ℕ → M → Bool → Type 0)
    (bytes : M → ByteMap) (writable : ℕ → Bool) (at : Addresses) (file : List ℕ) (old new : M)
    (address : ℕ) : Type 0 where
  pub n : ℕ
  pub k : ℕ
  pub numbered : n < e_phnum file
  pub within : k < loaded_size file n
  pub here : address ≡ segment_start at file n + k
  pub not_writable : writable address ≡ false
  pub stands : Stands at file (bytes old) (bytes new) writable n k
  pub made : Makes reads writes (segment_writes at writable file n
      ++ byte_writes writable (segment_start at file n) (segment_bytes file n (suc k))) old new

-- an address from the first on and before the end
abbrev pub lies_between : ℕ → ℕ → ℕ → Bool
lies_between start end a = nat_le start a && nat_lt a end

-- A load ends at this address, that of byte k of segment n, which is not one of these. All bytes of
-- the segments before it are, and those of segment n before byte k.
pub record EndsOutside (at : Addresses) (file : List ℕ) (is_in : ℕ → Bool) (address : ℕ)
    : Type 0 where
  pub n : ℕ
  pub k : ℕ
  pub numbered : n < e_phnum file
  pub within : k < loaded_size file n
  pub here : address ≡ segment_start at file n + k
  pub outside : is_in address ≡ false
  pub segments : (i j : ℕ) → i < n → j < loaded_size file i
      → is_in (segment_start at file i + j) ≡ true
  pub part : (j : ℕ) → j < k → is_in (segment_start at file n + j) ≡ true
