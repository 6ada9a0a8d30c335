use Rattle.rrs_gdb.specs.Sessions.{around, forgotten}
use Rattle.rrs_gdb.proofs.state.SessionState.forget.Goals as goal

pub returns-clause-forgotten : goal.returns-clause-forgotten
returns-clause-forgotten c = λ e i. record (forgotten (around c.args.self.now e)) {
  history = record { ring = record { items = c.clear.ensures.changes i; capacity = c.clear.ensures.room i } };
}
