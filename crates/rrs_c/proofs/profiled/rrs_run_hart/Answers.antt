-- The run is that of the hart, over the same state and the same words, and a state has one.
use Rattle.std.proofs.Common.{rules}
use Rattle.rrs_hart.proofs.HartRuns.{only_run}
use Rattle.rrs_c.proofs.profiled.rrs_run_hart.Goals as goal

pub returns-clause-run : goal.returns-clause-run
returns-clause-run c = search rules

pub returns-clause-only : goal.returns-clause-only
returns-clause-only c = only_run _ _ _ _ _ _ (returns-clause-run c)
