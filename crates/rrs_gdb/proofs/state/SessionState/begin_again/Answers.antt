-- Where it stopped, and what is reserved, is no part of what is forgotten.
use Rattle.std.proofs.Common.{None, ap}
use Rattle.rrs_gdb.specs.declared.state.Stop.TheVariants.{Signal}
use Rattle.rrs_gdb.specs.Sessions.{Around, stopped_at}
use Rattle.rrs_gdb.proofs.state.SessionState.begin_again.Goals as goal

pub returns-clause-around : goal.returns-clause-around
returns-clause-around c = λ e.
    ap (λ (a : Around). record (stopped_at a (Signal 5)) { reserved = None }) (c.forget.ensures.forgotten e)
