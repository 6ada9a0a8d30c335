use Rattle.std.proofs.Common.{◌≡◌}
use Rattle.rrs_exec.specs.Images.{headers_at}
use Rattle.rrs_exec.proofs.image.headers_of.Given as goal

abbrev pub invariant-loop-index : goal.invariant-loop-index
invariant-loop-index l = l.address ≡ headers_at l.executable.file.now l.index
