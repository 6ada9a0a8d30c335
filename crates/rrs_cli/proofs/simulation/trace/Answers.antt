use Rattle.std.proofs.lemmas.Result.{err_from_is_err_and}
use Rattle.rrs_cli.proofs.Accounts.{one_more_printed, fault_printed, stopped_before}
use Rattle.rrs_lib.proofs.Programs.{step-from_same}
use Rattle.rrs_cli.proofs.simulation.trace.Goals as goal

pub returns-in_err-print_next-clause-fault : goal.returns-in_err-print_next-clause-fault
returns-in_err-print_next-clause-fault g c =
    let p = err_from_is_err_and c.from_residual.result c.from_residual.ensures.1 in
    rw (p.1, p.2) (stopped_before _ _ _ _ _ _ _ _ c.loop-steps-test.true c.loop-steps.invariant c.in_err-print_next.ensures.fault)

pub returns-in-Err-clause-printed : goal.returns-in-Err-clause-printed
returns-in-Err-clause-printed g c =
    fault_printed _ _ _ _ _ _ _ _ _ c.loop-steps-test.true c.loop-steps.invariant c.in_ok-print_next.ensures.printed (step-from_same _ _ _ _ c.print_next.ensures.kept c.in-Err.ensures)

pub loop-steps-preserved : goal.loop-steps-preserved
loop-steps-preserved g c =
    one_more_printed _ _ _ _ _ _ _ c.loop-steps.invariant c.in_ok-print_next.ensures.printed (step-from_same _ _ _ _ c.print_next.ensures.kept c.in_default.ensures)
