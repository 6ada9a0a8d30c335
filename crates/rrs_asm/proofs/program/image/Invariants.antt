use Rattle.std.proofs.Common.{◌≡◌, drop}
use Rattle.rrs_asm.specs.Sections.{flat_behind, laid_flat}
use Rattle.rrs_asm.proofs.program.image.Given as goal

-- what is left is laid after what was
abbrev pub invariant-loop-section : goal.invariant-loop-section
invariant-loop-section g l = flat_behind l.base l.bytes.items (drop l.section-index l.program.sections.items) ≡ laid_flat l.base l.program.sections.items
