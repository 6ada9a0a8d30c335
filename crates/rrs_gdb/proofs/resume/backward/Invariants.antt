use Rattle.rrs_lib.specs.Executor.{state_in}
use Rattle.rrs_history.specs.Histories.{changes, past}
use Rattle.rrs_gdb.specs.Sessions.{PlacesKept}
use Rattle.rrs_gdb.proofs.SessionLemmas.{BackSoFar}
use Rattle.rrs_gdb.proofs.resume.backward.Given as goal

-- what follows from here within what is left of the limit follows from the first state
abbrev pub invariant-legs : goal.invariant-legs
invariant-legs g l =
    let state = state_in g.M.Memory.bytes g.M.Memory.writable in
    let stops = l.fn.state.breaks.stops.items in
    let watches = l.fn.state.breaks.watches.items in
    record {
      places : PlacesKept l.fn.state l.state;
      so_far : BackSoFar stops watches l.fn.state.profile l.fn.limit l.fn.environment (state l.fn.executor)
          (past (changes l.fn.state.history) (state l.fn.executor)) l.fn.state.steps
          l.left l.environment (state l.executor)
          (past (changes l.state.history) (state l.executor)) l.state.steps;
    }

abbrev pub decreases-legs : goal.decreases-legs
decreases-legs g l = l.left
