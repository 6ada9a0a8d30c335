use Rattle.std.proofs.Common.{◌≡◌, ◌++◌}
use Rattle.rrs_exec.specs.Images.{segment_ranges}
use Rattle.rrs_exec.proofs.image.push_segments.Given as goal

abbrev pub invariant-loop-index : goal.invariant-loop-index
invariant-loop-index l = l.ranges.items ≡ l.initial.ranges.items ++ segment_ranges l.executable.file.now l.index
