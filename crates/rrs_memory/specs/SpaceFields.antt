-- The regions of a MemorySpace as contracts see them, and what it keeps to find them.
use Rattle.std.specs.Prelude.{◌≡◌, ℕ, ◌+◌, ◌<◌, ◌≤◌, List, length, slice_index, slice_index_or}
use Rattle.rrs_memory.specs.declared.memories.space.MemoryRegion.{MemoryRegion}
use Rattle.rrs_memory.specs.Spaces.{Region}

-- a region of the code as a contract sees it
abbrev pub region_of : {M : Type 0} → MemoryRegion M → Region M
region_of r = record { base = r.base; size = r.size; memory = r.memory }

-- a region of the code with another memory
abbrev pub with_inner : {M : Type 0} → MemoryRegion M → M → MemoryRegion M
with_inner r m = record r { memory = m }

-- the base of the region of this index, in a list of bases and sizes
abbrev pub base_at : List (ℕ × ℕ) → ℕ → ℕ
base_at bounds i = (slice_index_or bounds i (0, 0)).0

-- the size of the region of this index
abbrev pub size_at : List (ℕ × ℕ) → ℕ → ℕ
size_at bounds i = (slice_index_or bounds i (0, 0)).1

-- The order in which regions are searched: the indexes of those of size above 0, by their bases.
-- Each of them ends where the next begins, or before.
pub record IsSearchOrder (bounds : List (ℕ × ℕ)) (order : List ℕ) : Type 0 where
  pub within : (j : ℕ) → j < length order → slice_index order j < length bounds
  pub nonempty : (j : ℕ) → j < length order → 0 < size_at bounds (slice_index order j)
  pub complete : (i : ℕ) → i < length bounds → 0 < size_at bounds i →
      (j : ℕ) × (j < length order) × (slice_index order j ≡ i)
  pub rising : (j k : ℕ) → j < k → k < length order →
      base_at bounds (slice_index order j) + size_at bounds (slice_index order j)
      ≤ base_at bounds (slice_index order k)
  pub few : length order ≤ length bounds
