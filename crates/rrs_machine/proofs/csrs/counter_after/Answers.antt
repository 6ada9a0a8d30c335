use Rattle.std.proofs.Common.{refl, arith}
use Rattle.rrs_machine.proofs.csrs.counter_after.Goals as goal

pub returns-then-is_stopped : goal.returns-then-is_stopped
returns-then-is_stopped c = record { after = rw c.if-is_stopped.true refl; fits = omega arith }

pub returns-else-is_stopped : goal.returns-else-is_stopped
returns-else-is_stopped c =
    record { after = rw c.if-is_stopped.false refl; fits = omega arith }
