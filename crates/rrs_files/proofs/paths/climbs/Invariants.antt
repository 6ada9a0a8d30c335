use Rattle.std.proofs.Common.{ℕ, ◌<◌}
use Rattle.rrs_files.specs.Paths.{ClimbsAt}
use Rattle.rrs_files.proofs.paths.climbs.Given as goal

-- it begins at no place before
abbrev pub invariant-loop-at : goal.invariant-loop-at
invariant-loop-at l = (before : ℕ) → before < l.at → ClimbsAt l.path before → ⊥
