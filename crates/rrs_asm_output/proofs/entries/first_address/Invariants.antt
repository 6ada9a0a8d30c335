use Rattle.std.proofs.Common.{◌≡◌, drop}
use Rattle.rrs_asm_output.specs.Executables.{first_address}
use Rattle.rrs_asm_output.proofs.entries.first_address.Given as goal

-- none before has a byte
abbrev pub invariant-loop-section : goal.invariant-loop-section
invariant-loop-section g l = first_address l.sections ≡ first_address (drop l.section-index l.sections)
