use Rattle.std.proofs.Common.{ℕ, ◌<◌, slice_index_or}
use Rattle.rrs_lent.specs.Steps.{IsShort}
use Rattle.rrs_lent.proofs.statements.has_long.Given as goal

-- those before are short
abbrev pub invariant-loop-section : goal.invariant-loop-section
invariant-loop-section g l = (k : ℕ) (d : _) → k < l.section-index → IsShort (slice_index_or l.sections k d)
