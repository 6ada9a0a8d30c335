use Rattle.std.proofs.Common.{arith}
use Rattle.std.proofs.lemmas.Bool.{ltb-true, lt-ltb}
use Rattle.rrs_memory.proofs.memories.space.MemoryRegion.overlaps.Goals as goal

pub returns-then-from : goal.returns-then-from
returns-then-from g c = (
  λ yes. (omega arith, omega (arith, ltb-true _ _ yes)),
  λ both. lt-ltb _ _ (omega (arith, both)),
)
