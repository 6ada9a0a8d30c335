use Rattle.std.proofs.Common.{◌≤◌}
use Rattle.rrs_files.proofs.host_directory.take_names.Given as goal

-- so much room is left at most
abbrev pub invariant-loop-byte : goal.invariant-loop-byte
invariant-loop-byte l = l.left ≤ l.fn.left
