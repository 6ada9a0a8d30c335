use Rattle.std.proofs.Common.{drop}
use Rattle.rrs_asm.specs.Sections.{with_bytes}
use Rattle.rrs_asm_output.specs.Executables.{AreSegments}
use Rattle.rrs_asm_output.proofs.accepting.are_segments.Given as goal

-- where what is left is these sections, all are
abbrev pub invariant-loop-section : goal.invariant-loop-section
invariant-loop-section l =
    AreSegments l.executable.file.now l.index (with_bytes (drop l.section-index l.sections)) → AreSegments l.executable.file.now 0 (with_bytes l.sections)
