use Rattle.rrs_lib.proofs.TextLengths.{text_length}
use Rattle.rrs_lib.proofs.disassembly.Disassembled.text.Goals as goal

pub returns-clause-longest : goal.returns-clause-longest
returns-clause-longest c = text_length _ _ _ _ c.written.ensures
