-- The run is the kit's, over the same hart and the same words, and a state has one.
use Rattle.std.proofs.Common.{rules}
use Rattle.rrs_lib.proofs.Stepping.{RunUntil-unique}
use Rattle.rrs_lib.proofs.Rows.{one_row_at_most}
use Rattle.rrs_c.proofs.rrs_run_cached.Goals as goal

pub returns-clause-run : goal.returns-clause-run
returns-clause-run c = search rules

pub returns-clause-only : goal.returns-clause-only
returns-clause-only c = λ steps e t other.
    RunUntil-unique one_row_at_most _ _ steps _ e _ t _ other (returns-clause-run c)
