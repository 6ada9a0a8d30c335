use Rattle.rrs_lib.specs.Executor.{state_in}
use Rattle.rrs_cli.specs.Printed.{AppendsLines}
use Rattle.rrs_cli.specs.Account.{PrintsOk}
use Rattle.rrs_cli.proofs.simulation.trace.Given as goal

-- the steps so far were Ok, and what stood before each is printed
abbrev pub invariant-loop-steps : goal.invariant-loop-steps
invariant-loop-steps g l =
    let state = state_in g.M.Memory.bytes g.M.Memory.writable in
    let contents = g.W.Write.contents in
    AppendsLines (PrintsOk l.steps (state l.fn.executor) (state l.executor)) (contents l.fn.out) (contents l.out)
