use Rattle.std.proofs.Common.{◌≤◌, All, length}
use Rattle.rrs_asm_output.specs.Mistakes.{IsOfOne}
use Rattle.rrs_asm_output.proofs.mistakes.own_mistakes_of.Given as goal

-- no more than the most are told, each where an error stands
abbrev pub invariant-loop-error : goal.invariant-loop-error
invariant-loop-error g l =
    (length l.told.items ≤ 20) × All (IsOfOne l.numbers l.errors) l.told.items
