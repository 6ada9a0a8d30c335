use Rattle.std.proofs.Common.{◌≤◌}
use Rattle.rrs_files.proofs.host_directory.names_in.Given as goal

-- so much room is left at most
abbrev pub invariant-loop : goal.invariant-loop
invariant-loop g l = l.left ≤ l.fn.left
