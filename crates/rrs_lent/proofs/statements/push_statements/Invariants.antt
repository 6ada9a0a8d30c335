use Rattle.std.proofs.Common.{◌≡◌, ◌++◌, List, take}
use Rattle.rrs_lent.specs.declared.outcome.RrsStatement.{RrsStatement}
use Rattle.rrs_lent.specs.Steps.{AreAsLong}
use Rattle.rrs_lent.proofs.statements.push_statements.Given as goal

-- those before are told
abbrev pub invariant-loop-statement : goal.invariant-loop-statement
invariant-loop-statement g l =
    (own : List RrsStatement) × AreAsLong l.numbers (take l.statement-index l.placed) own × (l.told.items ≡ l.fn.told.items ++ own)
