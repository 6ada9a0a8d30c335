use Rattle.rrs_run_commands.proofs.WordLemmas.{last_size}
use Rattle.rrs_run_commands.proofs.words.size_of.Goals as goal

pub returns : goal.returns
returns c = last_size _ _ c.in_default.ensures c.in_default-in_unit.ensures c.in_default-in_unit-2.ensures c.in_unit-3.ensures
