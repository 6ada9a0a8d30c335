use Rattle.rrs_run_commands.proofs.WordLemmas.{no_letter, no_count}
use Rattle.rrs_run_commands.proofs.words.in_unit.Goals as goal

pub returns-in_default : goal.returns-in_default
returns-in_default c = λ n. no_letter _ _ _ n c.in_default.ensures.cases

pub returns-in_default-number_of : goal.returns-in_default-number_of
returns-in_default-number_of c = λ n. no_count _ _ _ _ _ n c.in-Some.ensures.cases.1.0 c.in-Some.ensures.cases.2 c.in_default-number_of.ensures
