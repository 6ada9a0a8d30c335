use Rattle.std.proofs.Common.{ℕ, ◌<◌}
use Rattle.rrs_files.specs.declared.descriptors.Target.TheVariants.{File}
use Rattle.rrs_files.specs.Descriptors.{IsUsed}
use Rattle.rrs_files.proofs.descriptors.Descriptors.free_file.Given as goal

-- those before are used
abbrev pub invariant-loop-at : goal.invariant-loop-at
invariant-loop-at l = (before : ℕ) → before < l.at → IsUsed l.self.targets (File before)
