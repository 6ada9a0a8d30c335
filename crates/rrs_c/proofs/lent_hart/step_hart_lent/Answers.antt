-- The words stay lent, whatever accesses were made, and what was written last is a register's number.
use Rattle.std.proofs.Common.{rules}
use Rattle.rrs_lib.proofs.SliceLent.{still_lent}
use Rattle.rrs_hart.proofs.HartLast.{HartStep-last}
use Rattle.rrs_c.proofs.lent_hart.step_hart_lent.Goals as goal

pub returns-clause-lent : goal.returns-clause-lent
returns-clause-lent c =
    let kept = still_lent _ _ _ c.step_hart.ensures.accesses in
    search rules

pub returns-clause-last : goal.returns-clause-last
returns-clause-last c =
    let last = HartStep-last _ _ _ _ c.step_hart.ensures.step in
    search rules
