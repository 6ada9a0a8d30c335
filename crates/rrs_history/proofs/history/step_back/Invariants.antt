-- The parts of a call that were taken back so far.
use Rattle.std.proofs.Common.{◌≡◌, length}
use Rattle.rrs_lib.specs.Executor.{state_in, KeepsTheRest}
use Rattle.rrs_history.specs.Histories.{changes, room}
use Rattle.rrs_history.proofs.Remembering.{PartsTaken}
use Rattle.rrs_history.proofs.history.step_back.Given as goal

abbrev pub invariant-parts : goal.invariant-parts
invariant-parts g l =
    let memory = g.M.Memory in
    PartsTaken memory.reads memory.writes (changes l.initial.history) (changes l.history)
    (state_in memory.bytes memory.writable l.initial.executor) (state_in memory.bytes memory.writable l.executor)
    l.initial.executor.mem.now l.executor.mem.now
    × KeepsTheRest memory.layout l.initial.executor l.executor
    × (room l.history ≡ room l.initial.history)

abbrev pub decreases-parts : goal.decreases-parts
decreases-parts g l = length (changes l.history)
