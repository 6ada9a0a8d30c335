use Rattle.std.proofs.Common.{sym}
use Rattle.rrs_gdb.specs.Sessions.{around}
use Rattle.rrs_gdb.proofs.SessionLemmas.{still_none, still_some}
use Rattle.rrs_gdb.proofs.resume.count_steps.Goals as goal

pub returns-then-steps-eq0-clause-around : goal.returns-then-steps-eq0-clause-around
returns-then-steps-eq0-clause-around c = λ e i. record (around c.args.state.now e) {
  entered = sym (still_none c.args.steps c.args.state.now.has_entered c.if-steps-eq0.true) i;
  told_exit = sym (still_none c.args.steps c.args.state.now.has_told_exit c.if-steps-eq0.true) i;
}

pub returns-clause-around : goal.returns-clause-around
returns-clause-around c = λ e i. record (around c.args.state.now e) {
  entered = sym (still_some c.args.steps c.args.state.now.has_entered c.if-steps-eq0.false) i;
  told_exit = sym (still_some c.args.steps c.args.state.now.has_told_exit c.if-steps-eq0.false) i;
}
