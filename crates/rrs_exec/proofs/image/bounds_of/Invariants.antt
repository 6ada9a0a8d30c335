use Rattle.std.proofs.Common.{◌≡◌}
use Rattle.rrs_exec.specs.Images.{first_below, end_below}
use Rattle.rrs_exec.proofs.image.bounds_of.Given as goal

abbrev pub invariant-loop-index : goal.invariant-loop-index
invariant-loop-index l =
    (l.bounds.0 ≡ first_below l.executable.file.now l.index) × (l.bounds.1 ≡ end_below l.executable.file.now l.index)
