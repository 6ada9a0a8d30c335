-- The history leads back from the state that has the registers below this one as they are.
use Rattle.rrs_history.proofs.Carrying.{Mixed}
use Rattle.rrs_history.proofs.calls.keep_registers.Given as goal

abbrev pub invariant-loop-register : goal.invariant-loop-register
invariant-loop-register l = Mixed l.before l.after l.register l.initial.history l.history
