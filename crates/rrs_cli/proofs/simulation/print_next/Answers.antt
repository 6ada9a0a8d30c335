use Rattle.std.proofs.Common.{ap}
use Rattle.std.proofs.lemmas.Result.{on_ok_weaker}
use Rattle.rrs_lib.specs.Executor.{state_in}
use Rattle.rrs_cli.proofs.Printed.{appends_weaker, if_stops_weaker}
use Rattle.rrs_cli.proofs.Accounts.{next_lines}
use Rattle.rrs_cli.proofs.simulation.print_next.Goals as goal

pub returns-in-Some-clause-printed : goal.returns-in-Some-clause-printed
returns-in-Some-clause-printed g c =
    let s = state_in g.M.Memory.bytes g.M.Memory.writable c.args.executor.now in
    on_ok_weaker c.print_instruction.result
    (appends_weaker _ _ _ _ (λ lines. next_lines s _ _ lines (ap (λ t. t.pc) c.in-Some.ensures.kept) c.in-Some.ensures.word))
    c.print_instruction.ensures.printed

pub returns-in-Some-clause-fault : goal.returns-in-Some-clause-fault
returns-in-Some-clause-fault g c =
    let s = state_in g.M.Memory.bytes g.M.Memory.writable c.args.executor.now in
    if_stops_weaker _ _ _ _ _ _ c.print_instruction.result (λ lines none. none)
    (λ lines. next_lines s _ _ lines (ap (λ t. t.pc) c.in-Some.ensures.kept) c.in-Some.ensures.word)
    c.print_instruction.ensures.fault
