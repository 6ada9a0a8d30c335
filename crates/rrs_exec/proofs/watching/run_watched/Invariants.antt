use Rattle.rrs_lib.specs.Executor.{state_in, KeepsTheRest}
use Rattle.rrs_hart.specs.Harts.{hart_with}
use Rattle.rrs_exec.specs.Protection.{protected_bytes, protected_writable, protected_layout}
use Rattle.rrs_exec.proofs.WatchedRuns.{Leads}
use Rattle.rrs_exec.proofs.watching.run_watched.Given as goal

-- the turns so far
abbrev pub invariant-loop-steps : goal.invariant-loop-steps
invariant-loop-steps g l =
    let state = state_in protected_bytes protected_writable in
    record {
      leads : Leads l.fn.profile g.E.Environment.serves g.V.Watcher.sees g.V.Watcher.wants l.fn.environment (hart_with (state l.fn.executor) l.fn.reservation)
          l.fn.watcher l.steps l.environment (hart_with (state l.executor) l.reservation) l.watcher;
      rest : KeepsTheRest protected_layout l.fn.executor l.executor;
    }
