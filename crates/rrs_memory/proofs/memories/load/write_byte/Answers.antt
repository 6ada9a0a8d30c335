use Rattle.rrs_memory.proofs.memories.load.write_byte.Goals as goal

pub returns-else-write_mem-clause-laws : goal.returns-else-write_mem-clause-laws
returns-else-write_mem-clause-laws g c = rw c.from.ensures at c.if-write_mem.ensures.laws

pub returns-else-write_mem-clause-did : goal.returns-else-write_mem-clause-did
returns-else-write_mem-clause-did g c = rw c.from.ensures at c.if-write_mem.ensures.did
