use Rattle.std.proofs.Common.{arith}
use Rattle.std.proofs.lemmas.Grind.{common_steps}
use Rattle.rrs_asm.proofs.output.append_short.Goals as goal

-- the half-word is the instruction, and its bytes are those that were appended
pub returns-in_ok-extend_from_slice-in-Some : goal.returns-in_ok-extend_from_slice-in-Some
returns-in_ok-extend_from_slice-in-Some g c = (
  c.in-Some.half,
  (c.encode_short.ensures c.in-Some.half).0 c.in-Some.is,
  grind (arith, common_steps),
)
