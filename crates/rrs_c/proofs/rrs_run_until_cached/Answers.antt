-- The run is the kit's, over the same hart and the same words, and a state has one.
use Rattle.std.proofs.Common.{rules}
use Rattle.rrs_trace.proofs.Stopping.{RunsToStop-unique}
use Rattle.rrs_c.proofs.rrs_run_until_cached.Goals as goal

pub returns-clause-run : goal.returns-clause-run
returns-clause-run c = search rules

pub returns-clause-only : goal.returns-clause-only
returns-clause-only c = λ steps reason t other.
    RunsToStop-unique _ _ _ steps _ reason _ t _ other (returns-clause-run c)
