use Rattle.std.proofs.lemmas.Result.{err_from_is_err_and, on_ok_weaker, IfErr-weaker}
use Rattle.rrs_cli.proofs.Accounts.{stopped_in_steps, stopped_in_ending, whole_printed}
use Rattle.rrs_cli.proofs.simulation.print_account.Goals as goal

pub returns-in_err-end-clause-fault : goal.returns-in_err-end-clause-fault
returns-in_err-end-clause-fault g c =
    let p = err_from_is_err_and c.from_residual.result c.from_residual.ensures.1 in
    rw (p.1, p.2) (stopped_in_steps _ _ _ _ _ c.in_err-end.ensures.fault)

pub returns : goal.returns
returns g c =
    let left = c.trace.new.executor.mem.now in
    let printed = c.print_ending.ensures.printed (g.M.Memory.bytes left) (g.M.Memory.writable left) in
    let stopped = c.print_ending.ensures.fault (g.M.Memory.bytes left) (g.M.Memory.writable left) in
    record {
      account = on_ok_weaker c.print_ending.result (whole_printed _ _ _ _ _ _ _ _ c.in_ok-end.ensures.printed) printed;
      fault = IfErr-weaker c.print_ending.result _ _ (λ e. stopped_in_ending _ _ _ _ _ _ _ _ e c.in_ok-end.ensures.printed) stopped;
    }
