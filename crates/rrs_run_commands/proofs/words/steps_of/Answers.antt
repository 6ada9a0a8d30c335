use Rattle.std.proofs.Common.{◌+◌, rules}
use Rattle.rrs_run_commands.proofs.words.steps_of.Goals as goal

pub returns-in_default-number_of : goal.returns-in_default-number_of
returns-in_default-number_of c = λ range is.
    c.in_default-number_of.ensures (range.before + 1) (search (rules, is.first))

pub returns-in_default-number_of-2 : goal.returns-in_default-number_of-2
returns-in_default-number_of-2 c = λ range is.
    c.in_default-number_of-2.ensures range.until (search (rules, is.last))
