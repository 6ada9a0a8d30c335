use Rattle.rrs_memory.proofs.TextLemmas.{padded_hexadecimal}
use Rattle.rrs_memory.proofs.memories.load.LoadFaultDisplay.fmt.Goals as goal

pub returns-in-Refused-clause-writes : goal.returns-in-Refused-clause-writes
returns-in-Refused-clause-writes g c =
    let h = rw (c.laid_out.ensures, c.in_radix.ensures, padded_hexadecimal 8) at c.write-in-Refused.ensures.writes in
    rw c.in-Refused.is h
