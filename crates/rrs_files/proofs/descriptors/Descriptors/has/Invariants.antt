use Rattle.std.proofs.Common.{◌≢◌, ℕ, ◌<◌, slice_index_or, Some, None}
use Rattle.rrs_files.proofs.descriptors.Descriptors.has.Given as goal

-- none before has it
abbrev pub invariant-loop-place : goal.invariant-loop-place
invariant-loop-place l =
    (before : ℕ) → before < l.place → slice_index_or l.self.targets before None ≢ Some l.target
