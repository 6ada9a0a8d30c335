use Rattle.std.proofs.Common.{rules}
use Rattle.rrs_instruction.proofs.decode.hand_op_imm.Goals as goal

pub returns-in-3 : goal.returns-in-3
returns-in-3 g c = search rules
