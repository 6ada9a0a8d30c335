-- The words stay lent, whatever accesses were made, and what was written last is a register's number.
use Rattle.std.proofs.Common.{rules, sym, subst}
use Rattle.rrs_lib.specs.Steps.{LastIsRegister}
use Rattle.rrs_lib.proofs.SliceLent.{still_lent}
use Rattle.rrs_c.proofs.Naming.{number_is}
use Rattle.rrs_c.proofs.lent.machine_step_lent.Goals as goal

pub returns-clause-lent : goal.returns-clause-lent
returns-clause-lent c =
    let kept = still_lent _ _ _ c.step_machine_retired.ensures.accesses in
    search rules

pub returns-clause-last : goal.returns-clause-last
returns-clause-last c =
    let told = c.step_machine_retired in
    let number = number_is told.result.1.retired.rd_addr told.ensures.numbers.2 in
    let is = subst LastIsRegister (sym told.ensures.retires.written) number in
    search rules
