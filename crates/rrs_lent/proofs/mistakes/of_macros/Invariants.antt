use Rattle.std.proofs.Common.{◌≤◌, length}
use Rattle.rrs_lent.proofs.mistakes.of_macros.Given as goal

-- no more than 20 are told
abbrev pub invariant-loop-error : goal.invariant-loop-error
invariant-loop-error g l = length l.own.items ≤ 20
