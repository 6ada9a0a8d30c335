use Rattle.std.proofs.Common.{◌≡◌, drop}
use Rattle.rrs_asm_output.specs.Executables.{unit_of}
use Rattle.rrs_asm_output.proofs.units.unit_of.Given as goal

-- none before has compressed instructions
abbrev pub invariant-loop-section : goal.invariant-loop-section
invariant-loop-section l = unit_of l.sections ≡ unit_of (drop l.section-index l.sections)
