use Rattle.rrs_memory.proofs.TextLemmas.{padded_hexadecimal}
use Rattle.rrs_lib.proofs.instruction_executor.display.InstructionExceptionDisplay.fmt.Goals as goal

pub returns-in-IllegalInstruction-clause-writes : goal.returns-in-IllegalInstruction-clause-writes
returns-in-IllegalInstruction-clause-writes g c =
    let illegal = c.in-IllegalInstruction in
    let h = rw (c.laid_out.ensures, c.in_radix.ensures, c.laid_out-in-IllegalInstruction.ensures, c.in_radix-in-IllegalInstruction.ensures, padded_hexadecimal 8 illegal.pc, padded_hexadecimal 8 illegal.word) at c.write.ensures.writes in
    rw illegal.is h
