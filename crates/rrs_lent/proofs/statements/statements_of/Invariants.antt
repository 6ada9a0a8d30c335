use Rattle.std.proofs.Common.{take}
use Rattle.rrs_lent.specs.Steps.{AreAllAsLong}
use Rattle.rrs_lent.proofs.statements.statements_of.Given as goal

-- those of the sections before are told
abbrev pub invariant-loop-section : goal.invariant-loop-section
invariant-loop-section g l = AreAllAsLong l.numbers (take l.section-index l.sections) l.told.items
