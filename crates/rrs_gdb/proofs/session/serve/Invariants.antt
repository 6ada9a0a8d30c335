-- How the session goes from here on is how it goes.
use Rattle.rrs_lib.specs.Executor.{state_in}
use Rattle.rrs_gdb.specs.declared.link.Link.{Link}
use Rattle.rrs_gdb.specs.declared.session.SessionEnd.{SessionEnd}
use Rattle.rrs_gdb.specs.declared.session.SessionEnd.TheVariants as Ending
use Rattle.rrs_gdb.specs.Sessions.{Debugged, Serves, Turn, debugged}
use Rattle.rrs_gdb.specs.Shown.{Turns}
use Rattle.rrs_gdb.proofs.session.serve.Given as goal

abbrev pub invariant-loop : goal.invariant-loop
invariant-loop g l =
    let remaining = g.R.Read.remaining in
    let contents = g.W.Write.contents in
    let program = state_in g.M.Memory.bytes g.M.Memory.writable in
    (n : Debugged) (new : Link _ _) (end : SessionEnd)
    → Turns remaining contents (Turn contents) Ending.Ended (debugged l.state (program l.executor)) l.link n new end
    → Serves remaining contents (debugged l.fn.state (program l.fn.executor)) l.fn.link n new end
