use Rattle.rrs_memory.proofs.memories.space.MemoryRegion.read.Goals as goal

pub read_mem-requires : goal.read_mem-requires
read_mem-requires g c = c.requires.aligned

pub returns-clause-laws : goal.returns-clause-laws
returns-clause-laws g c = c.read_mem.ensures.laws

pub returns-clause-did : goal.returns-clause-did
returns-clause-did g c = c.read_mem.ensures.did
