use Rattle.std.proofs.Common.{◌≡◌, drop}
use Rattle.rrs_asm_output.specs.Executables.{address_of}
use Rattle.rrs_asm_output.proofs.entries.address_of.Given as goal

-- none before has a label of the name
abbrev pub invariant-loop-section : goal.invariant-loop-section
invariant-loop-section g l = address_of l.name l.sections ≡ address_of l.name (drop l.section-index l.sections)
