-- The words stay, and stay lent.
use Rattle.std.proofs.Common.{ap, rules}
use Rattle.rrs_memory.specs.declared.memories.slice.SliceMemory.{SliceMemory}
use Rattle.rrs_c.proofs.lent_board.read_ram.Goals as goal

pub returns-clause-kept : goal.returns-clause-kept
returns-clause-kept c =
    let same = ap (λ (m : SliceMemory). m.words.ghost_name) c.read_mem.ensures.did in
    search rules
