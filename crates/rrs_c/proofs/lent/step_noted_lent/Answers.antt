-- The words stay lent, whatever accesses were made, and the change has what was written last before.
use Rattle.std.proofs.Common.{rules, ap}
use Rattle.rrs_lib.specs.Machine.{State}
use Rattle.rrs_lib.proofs.SliceLent.{still_lent}
use Rattle.rrs_c.proofs.lent.step_noted_lent.Goals as goal

pub returns-clause-lent : goal.returns-clause-lent
returns-clause-lent c = still_lent _ _ _ c.step_noted_parts.ensures.accesses

pub returns-clause-last_before : goal.returns-clause-last_before
returns-clause-last_before c =
    let same = ap (λ (s : State). s.last) c.step_noted_parts.ensures.undoes in
    let starts = c.step_noted_parts.ensures.starts in
    search rules
