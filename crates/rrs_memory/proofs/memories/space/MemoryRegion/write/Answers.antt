use Rattle.rrs_memory.proofs.memories.space.MemoryRegion.write.Goals as goal

pub returns-clause-laws : goal.returns-clause-laws
returns-clause-laws g c = c.write_mem.ensures.laws

pub returns-clause-did : goal.returns-clause-did
returns-clause-did g c = c.write_mem.ensures.did
