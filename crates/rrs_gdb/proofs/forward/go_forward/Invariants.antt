use Rattle.std.proofs.Common.{◌+◌}
use Rattle.rrs_lib.specs.Executor.{state_in, KeepsTheRest}
use Rattle.rrs_lib.specs.Steps.{RunsOk}
use Rattle.rrs_trace.specs.Stops.{PassesNone}
use Rattle.rrs_gdb.specs.Breaks.{NoneTouches}
use Rattle.rrs_gdb.proofs.BreakLemmas.{KeptSoFar}
use Rattle.rrs_gdb.proofs.forward.go_forward.Given as goal

-- the steps so far were Ok, came to no stop, touched no watchpoint, and are kept
abbrev pub invariant-loop-steps : goal.invariant-loop-steps
invariant-loop-steps g l =
    let memory = g.M.Memory in
    let state = state_in memory.bytes memory.writable in
    record {
      runs : RunsOk l.steps (state l.fn.executor) (state l.executor);
      passes : PassesNone l.breaks.stops.items (l.steps + 1) (state l.fn.executor);
      untouched : NoneTouches l.breaks.watches.items l.steps (state l.fn.executor);
      kept : KeptSoFar l.steps l.fn.history (state l.fn.executor) l.history (state l.executor);
      rest : KeepsTheRest memory.layout l.fn.executor l.executor;
    }
