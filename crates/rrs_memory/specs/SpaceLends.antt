-- What a MemorySpace ends as, where a `&mut` to a region's memory is returned.
use Rattle.std.specs.Prelude.{ℕ, Option}
use Rattle.std.specs.Borrow.{Lends, LendsIf, Fml, RattleType, MutBor}
use Rattle.rrs_memory.specs.Spaces.{Space, with_region_memory}
use Rattle.rrs_memory.specs.declared.memories.space.MemoryRegion.{MemoryRegion}
use Rattle.rrs_memory.specs.SpaceFields.{with_inner}
use Rattle.rrs_memory.specs.contracts.memories.space.MemoryRegion.{the_row as region_row}
use Rattle.rrs_memory.specs.contracts.memories.space.MemorySpace.{the_row}

-- once the borrow r ends, the region has the memory that was left behind r, and its base and size
abbrev pub lends_inner : (M : RattleType) → MutBor (MemoryRegion M.Denot) → MutBor M.Denot → Fml
lends_inner M s r = Lends (region_row M) M s r (with_inner s.now)

module _ (M : RattleType) (s : MutBor (Space M.Denot)) (index : ℕ) where
  -- once the borrow r ends, the region of this index has the memory that was left behind r, and
  -- nothing else has changed
  abbrev pub lends_memory : MutBor M.Denot → Fml
  lends_memory r = Lends (the_row M) M s r (with_region_memory s.now index)

  -- the same where r is a reference; at `None` the space stays as it is
  abbrev pub lends_memory_if : Option (MutBor M.Denot) → Fml
  lends_memory_if r = LendsIf (the_row M) M s r (with_region_memory s.now index) s.now
