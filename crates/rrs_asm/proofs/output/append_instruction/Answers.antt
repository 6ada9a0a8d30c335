use Rattle.std.proofs.Common.{[], refl, w32, arith}
use Rattle.std.specs.Int.{to_le_bytes}
use Rattle.std.proofs.lemmas.Grind.{common_steps}
use Rattle.rrs_asm.proofs.output.append_instruction.Goals as goal

-- the word is the instruction, and its bytes are those that were appended
pub returns-in_ok-extend_from_slice-in-Some : goal.returns-in_ok-extend_from_slice-in-Some
returns-in_ok-extend_from_slice-in-Some g c = (
  to_le_bytes w32 c.in-Some.word,
  (c.in-Some.word, [], (c.encode.ensures c.in-Some.word).0 c.in-Some.is, refl, refl),
  grind (arith, common_steps),
)
