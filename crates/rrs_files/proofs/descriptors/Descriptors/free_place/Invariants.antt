use Rattle.std.proofs.Common.{◌≢◌, ℕ, ◌<◌, ◌≤◌, slice_index_or, None}
use Rattle.rrs_files.proofs.descriptors.Descriptors.free_place.Given as goal

-- those before are open
abbrev pub invariant-loop-place : goal.invariant-loop-place
invariant-loop-place l =
    (before : ℕ) → l.least ≤ before → before < l.place → slice_index_or l.self.targets before None ≢ None
