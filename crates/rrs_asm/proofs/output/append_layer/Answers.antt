use Rattle.std.proofs.Common.{arith}
use Rattle.std.proofs.lemmas.Grind.{common_steps}
use Rattle.rrs_asm.proofs.output.append_layer.Goals as goal

-- the word is the instruction, and its bytes are those that were appended
pub returns-in_ok-extend_from_slice-in-Some : goal.returns-in_ok-extend_from_slice-in-Some
returns-in_ok-extend_from_slice-in-Some g c = (
  c.in-Some.word,
  (c.encode_layer.ensures c.in-Some.word).0 c.in-Some.is,
  grind (arith, common_steps),
)
