use Rattle.std.proofs.Common.{take}
use Rattle.rrs_lib.specs.Executor.{state_in, KeepsTheRest}
use Rattle.rrs_lib.specs.Steps.{Run}
use Rattle.rrs_lib.specs.Accesses.{AccessesOfRun, MakesExactly}
use Rattle.rrs_lib.proofs.instruction_executor.InstructionExecutor.step_each.Given as goal

-- the answers so far are those of a run
abbrev pub invariant-loop-answer : goal.invariant-loop-answer
invariant-loop-answer g l =
    let state = state_in g.M.Memory.bytes g.M.Memory.writable in
    record {
      run : Run (state l.fn.self) (take l.answer-index l.answers) (state l.self);
      accesses : MakesExactly g.M.Memory.reads g.M.Memory.writes (AccessesOfRun (state l.fn.self) (take l.answer-index l.answers)) l.fn.self.mem.now l.self.mem.now;
      rest : KeepsTheRest g.M.Memory.layout l.fn.self l.self;
    }
