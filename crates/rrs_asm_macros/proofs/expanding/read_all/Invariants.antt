use Rattle.rrs_asm_macros.specs.Expanding.{IsWithin}
use Rattle.rrs_asm_macros.specs.Lines.{IsMade}
use Rattle.rrs_asm_macros.proofs.expanding.read_all.Given as goal

-- each line that was made is of a line of the source, and at most 20 mistakes are told
abbrev pub invariant-loop : goal.invariant-loop
invariant-loop g l = record {
  made : IsMade l.total l.out;
  within : IsWithin l.fn.expansion → IsWithin l.expansion;
}
