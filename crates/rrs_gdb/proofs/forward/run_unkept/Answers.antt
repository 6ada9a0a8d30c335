use Rattle.rrs_gdb.proofs.BreakLemmas.{as_stop}
use Rattle.rrs_gdb.proofs.forward.run_unkept.Goals as goal

pub returns-clause-run : goal.returns-clause-run
returns-clause-run g c = as_stop _ _ _ _ c.run_to_stop-steps.result.reason _ _ c.reason_of.ensures c.run_to_stop-steps.ensures.run
