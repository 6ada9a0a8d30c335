use Rattle.std.proofs.Common.{◌≡◌, ◌%◌, ◌≤◌, replicate, Ok}
use Rattle.rrs_lib.specs.Bytes.{EndsAtLastAddress}
use Rattle.rrs_lib.specs.Executor.{state_in, KeepsTheRest}
use Rattle.rrs_lib.specs.Steps.{StepAnswer}
use Rattle.rrs_lib.specs.Accesses.{MakesExactly}
use Rattle.rrs_hart.specs.Chains.{ChainOk}
use Rattle.rrs_hart.specs.Harts.{hart_with, HartStep, AccessesOfHartRun}
use Rattle.rrs_hart.proofs.runs.run_hart.Given as goal

-- the steps so far were Ok
abbrev pub invariant-loop-steps : goal.invariant-loop-steps
invariant-loop-steps g l =
    let memory = g.M.Memory in
    let first = hart_with (state_in memory.bytes memory.writable l.fn.executor) l.fn.reservation in
    let now = hart_with (state_in memory.bytes memory.writable l.executor) l.reservation in
    record {
      runs : ChainOk (HartStep l.fn.profile) l.steps first now;
      accesses : MakesExactly memory.reads memory.writes (AccessesOfHartRun l.fn.profile first (replicate {A = StepAnswer} l.steps (Ok tt))) l.fn.executor.mem.now l.executor.mem.now;
      rest : KeepsTheRest memory.layout l.fn.executor l.executor;
      ends : 1 ≤ l.steps → l.fn.executor.hart_state.now.pc % 4 ≡ 0
          → EndsAtLastAddress (memory.bytes l.fn.executor.mem.now) (memory.writable l.fn.executor.mem.now);
    }
