use Rattle.std.proofs.Common.{ℕ, ◌<◌, slice_index_or}
use Rattle.rrs_asm.specs.Sections.{HasItsKind}
use Rattle.rrs_asm.proofs.sections.has_wrong_kind.Given as goal

-- those before hold what their names say
abbrev pub invariant-loop-section : goal.invariant-loop-section
invariant-loop-section g l = (k : ℕ) (d : _) → k < l.section-index → HasItsKind (slice_index_or l.sections k d)
