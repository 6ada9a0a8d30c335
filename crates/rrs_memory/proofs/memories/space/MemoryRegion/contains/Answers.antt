use Rattle.std.proofs.Common.{arith}
use Rattle.std.proofs.lemmas.Bool.{ltb-true, lt-ltb}
use Rattle.rrs_memory.proofs.memories.space.MemoryRegion.contains.Goals as goal

pub returns-then-self-addr : goal.returns-then-self-addr
returns-then-self-addr g c = (
  λ yes. (omega arith, omega (arith, ltb-true _ _ yes)),
  λ both. lt-ltb _ _ (omega (arith, both)),
)
