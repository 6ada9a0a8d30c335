use Rattle.std.proofs.Common.{ℕ, ap}
use Rattle.rrs_lib.specs.Machine.{with_pc}
use Rattle.rrs_lib.specs.Executor.{state_in}
use Rattle.rrs_gdb.specs.Answers.{There}
use Rattle.rrs_gdb.proofs.session.begin_at.Goals as goal

pub returns-clause-begins : goal.returns-clause-begins
returns-clause-begins g c = λ e.
    let s = state_in g.M.Memory.bytes g.M.Memory.writable c.args.executor.now in
    There c.in-Some.ensures.0 (c.forget.ensures.forgotten e) (ap (λ (n : ℕ). with_pc s n) c.in-Some.ensures.1)
