use Rattle.std.proofs.Common.{◌≡◌}
use Rattle.rrs_lib.specs.Machine.{State}
use Rattle.rrs_lib.specs.Executor.{state_in}
use Rattle.rrs_gdb.specs.Sessions.{Around, GoesOn, PlacesKept, around, asked_by}
use Rattle.rrs_gdb.proofs.resume.forward.Given as goal

-- what follows from here within what is left of the limit follows from the first state
abbrev pub invariant-legs : goal.invariant-legs
invariant-legs g l =
    let state = state_in g.M.Memory.bytes g.M.Memory.writable in
    let asked = asked_by l.fn.state in
    record {
      places : PlacesKept l.fn.state l.state;
      goes_on : (b : Around) (t : State)
          → GoesOn asked l.fn.at_limit b t l.left (around l.state l.environment) (state l.executor)
          → GoesOn asked l.fn.at_limit b t l.fn.limit (around l.fn.state l.fn.environment) (state l.fn.executor);
      acknowledges : l.link.acknowledges ≡ l.fn.link.acknowledges;
    }

abbrev pub decreases-legs : goal.decreases-legs
decreases-legs g l = l.left
