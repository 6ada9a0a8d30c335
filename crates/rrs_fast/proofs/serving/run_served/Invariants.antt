use Rattle.std.proofs.Common.{◌≡◌, ◌<◌, ◌≤◌, ◌-◌, ◌%◌}
use Rattle.rrs_lib.specs.Bytes.{EndsAtLastAddress}
use Rattle.rrs_lib.specs.Executor.{state_in, KeepsTheRest}
use Rattle.rrs_hart.specs.Harts.{hart_with}
use Rattle.rrs_fast.proofs.Rounds.{Reached}
use Rattle.rrs_fast.proofs.serving.run_served.Given as goal

-- the rounds so far
abbrev pub invariant-rounds : goal.invariant-rounds
invariant-rounds g l =
    let memory = g.M.Memory in
    let runner = g.R.Runner in
    let state = state_in memory.bytes memory.writable in
    record {
      within : l.steps ≤ l.fn.limit;
      reached : Reached (runner.profile l.fn.runner) g.E.Environment.serves memory.reads memory.writes l.fn.limit l.fn.environment (hart_with (state l.fn.executor) (runner.reserved l.fn.runner)) l.fn.executor.mem.now l.steps l.environment (hart_with (state l.executor) (runner.reserved l.runner)) l.executor.mem.now;
      same_profile : runner.profile l.runner ≡ runner.profile l.fn.runner;
      rest : KeepsTheRest memory.layout l.fn.executor l.executor;
      at_start : l.steps ≡ 0 → l.executor ≡ l.fn.executor;
      ends : 0 < l.steps → l.fn.executor.hart_state.now.pc % 4 ≡ 0
          → EndsAtLastAddress (memory.bytes l.fn.executor.mem.now) (memory.writable l.fn.executor.mem.now);
    }

abbrev pub decreases-rounds : goal.decreases-rounds
decreases-rounds g l = l.fn.limit - l.steps
