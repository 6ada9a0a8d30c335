-- The lines of the CSRs so far.
use Rattle.std.proofs.Common.{◌≡◌, ◌++◌}
use Rattle.rrs_board_gdb.specs.Shown.{csr_lines}
use Rattle.rrs_board_gdb.proofs.target.push_csrs.Given as goal

abbrev pub invariant-loop-number : goal.invariant-loop-number
invariant-loop-number l = l.text.items ≡ l.initial.text.items ++ csr_lines l.fn.profile l.number
