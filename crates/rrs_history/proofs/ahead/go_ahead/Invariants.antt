-- The steps that were made so far.
use Rattle.rrs_lib.specs.Executor.{state_in, KeepsTheRest}
use Rattle.rrs_lib.specs.Steps.{RunsOk}
use Rattle.rrs_history.specs.Returns.{WentAhead}
use Rattle.rrs_history.proofs.ahead.go_ahead.Given as goal

abbrev pub invariant-loop-steps : goal.invariant-loop-steps
invariant-loop-steps g l =
    let memory = g.M.Memory in
    let state = state_in memory.bytes memory.writable in
    RunsOk l.steps (state l.initial.executor) (state l.executor)
    × WentAhead l.steps l.initial.history (state l.initial.executor) l.history (state l.executor)
    × KeepsTheRest memory.layout l.initial.executor l.executor
