use Rattle.std.proofs.Common.{◌-◌, ◌≤◌}
use Rattle.rrs_lib.specs.Executor.{state_in, KeepsTheRest}
use Rattle.rrs_history.specs.Histories.{changes, past}
use Rattle.rrs_gdb.proofs.BreakLemmas.{PassedSoFar}
use Rattle.rrs_gdb.proofs.back.go_back.Given as goal

-- the states so far are at no stop, and no step from them touches a watchpoint
abbrev pub invariant-steps : goal.invariant-steps
invariant-steps g l =
    let memory = g.M.Memory in
    let state = state_in memory.bytes memory.writable in
    record {
      passed : PassedSoFar l.breaks.stops.items l.breaks.watches.items l.steps
          (state l.fn.executor) (past (changes l.fn.history) (state l.fn.executor))
          (state l.executor) (past (changes l.history) (state l.executor));
      within : l.steps ≤ l.fn.limit;
      rest : KeepsTheRest memory.layout l.fn.executor l.executor;
    }

abbrev pub decreases-steps : goal.decreases-steps
decreases-steps g l = l.fn.limit - l.steps
