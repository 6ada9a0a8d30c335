-- A step that is kept, or an exception that ends the run.
use Rattle.rrs_lib.specs.Executor.{state_in}
use Rattle.rrs_lib.proofs.Stepping.{RunsOk-more, KeepsTheRest-trans}
use Rattle.rrs_history.proofs.Returning.{ahead_more, ahead_fault}
use Rattle.rrs_history.proofs.ahead.go_ahead.Goals as goal

pub returns-in-Err-clause-ahead : goal.returns-in-Err-clause-ahead
returns-in-Err-clause-ahead g c =
    let state = state_in g.M.Memory.bytes g.M.Memory.writable in
    let step = c.in-Err.ensures in
    ahead_fault c.loop-steps.steps c.args.history.now c.loop-steps.history c.step_recorded.new.history
    (state c.args.executor.now) (state c.loop-steps.executor) (state c.step_recorded.new.executor)
    c.loop-steps.invariant.1 step.fault step.kept.0 step.room

pub loop-steps-preserved : goal.loop-steps-preserved
loop-steps-preserved g c =
    let memory = g.M.Memory in
    let state = state_in memory.bytes memory.writable in
    let step = c.in_default.ensures in
    let s = state c.args.executor.now in
    let t = state c.loop-steps.executor in
    let u = state c.step_recorded.new.executor in
    let before = c.loop-steps.invariant in (
      RunsOk-more s t u c.loop-steps.steps before.0 step.step,
      ahead_more c.loop-steps.steps c.args.history.now c.loop-steps.history c.step_recorded.new.history s t u before.1 step.remembered,
      KeepsTheRest-trans memory.layout _ _ _ before.2 step.rest,
    )
