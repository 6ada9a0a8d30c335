use Rattle.std.proofs.lemmas.Result.{err_from_is_err_and, on_ok_weaker}
use Rattle.rrs_cli.specs.Account.{AccountOf, PrintsRun, PartOfAccount}
use Rattle.rrs_cli.proofs.Printed.{Ready, run_printed, if_stops_run, stopped_in_load}
use Rattle.rrs_cli.proofs.simulation.simulate.Goals as goal

pub returns-in_err-memory-clause-fault : goal.returns-in_err-memory-clause-fault
returns-in_err-memory-clause-fault g c =
    let p = err_from_is_err_and c.from_residual.result c.from_residual.ensures.1 in
    rw (p.1, p.2) (stopped_in_load (PrintsRun c.args.limit) (PartOfAccount c.args.limit) _ _ _ _ c.in_err-memory.ensures.fault)

pub returns : goal.returns
returns g c =
    let new = c.in_ok-memory.memory.mem.items in
    let hart = c.new-hart.result in
    let ready : Ready (g.R.Read.remaining c.args.reader.now) (g.R.Read.remaining c.load.new.reader) new hart = record {
      loads = c.in_ok-memory.ensures.loaded;
      writable = c.in_ok-memory.ensures.writable;
      registers = c.new-hart.ensures.registers;
      pc = c.new-hart.ensures.pc;
      last = c.new-hart.ensures.last;
    } in
    record {
      account = on_ok_weaker c.print_account.result
          (run_printed (AccountOf c.args.limit) _ _ new hart _ _ ready)
          c.print_account.ensures.account;
      fault = if_stops_run (PrintsRun c.args.limit) (PartOfAccount c.args.limit) _ _ new hart _ _ c.print_account.result ready c.print_account.ensures.fault;
    }
