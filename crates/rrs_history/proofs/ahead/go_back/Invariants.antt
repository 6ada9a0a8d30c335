-- The steps that are still to be taken back.
use Rattle.std.proofs.Common.{◌≡◌, ◌≤◌, ◌-◌, take}
use Rattle.rrs_lib.specs.Machine.{State}
use Rattle.rrs_lib.specs.Executor.{state_in, KeepsTheRest}
use Rattle.rrs_history.specs.declared.history.History.{History}
use Rattle.rrs_history.specs.Histories.{changes, room}
use Rattle.rrs_history.specs.Returns.{WentAhead}
use Rattle.rrs_history.proofs.Returning.{Remaining}
use Rattle.rrs_history.proofs.ahead.go_back.Given as goal

abbrev pub invariant-steps : goal.invariant-steps
invariant-steps g l =
    let memory = g.M.Memory in
    let state = state_in memory.bytes memory.writable in
    ((first : History) (s : State) → l.fn.steps ≤ room first
    → WentAhead l.fn.steps first s l.initial.history (state l.initial.executor)
    → Remaining l.left s (take (room first - l.fn.steps) (changes first)) l.history (state l.executor))
    × (room l.history ≡ room l.initial.history)
    × KeepsTheRest memory.layout l.initial.executor l.executor

abbrev pub decreases-steps : goal.decreases-steps
decreases-steps g l = l.left
