use Rattle.std.proofs.Common.{◌≡◌, ◌+◌, drop}
use Rattle.rrs_asm.specs.Sections.{names_of, index_of}
use Rattle.rrs_asm.proofs.assembling.section_named.Given as goal

-- none before has the name
abbrev pub invariant-loop-index : goal.invariant-loop-index
invariant-loop-index g l = index_of l.name (names_of l.sections) ≡ l.index + index_of l.name (names_of (drop l.index l.sections))
