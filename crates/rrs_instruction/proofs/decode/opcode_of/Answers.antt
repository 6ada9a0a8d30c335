use Rattle.std.proofs.lemmas.Nat.{and_mask}
use Rattle.rrs_instruction.proofs.decode.opcode_of.Goals as goal

pub returns : goal.returns
returns c = and_mask c.args.word 7
