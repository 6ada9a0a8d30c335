-- What lists in lent memory are kept by: a reference to an arena over it. The ghost members are
-- those of the allocator that the arena stands on.
use Rattle.std.specs.Borrow.{Bor}
use Rattle.std.specs.declared.alloc.Allocator.{Ghosts}
use Rattle.bumpalo.specs.declared.bump.Bump.{Bump}
use Rattle.rrs_lent.specs.declared.lent_heap.LentHeap.{LentHeap}

abbrev pub Arena : Ghosts (Bor LentHeap) → Type 0
Arena g = Bor (Bump (Bor LentHeap) g)
