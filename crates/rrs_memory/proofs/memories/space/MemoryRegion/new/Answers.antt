use Rattle.std.proofs.Common.{refl}
use Rattle.rrs_memory.proofs.memories.space.MemoryRegion.new.Goals as goal

pub returns : goal.returns
returns g c = refl
