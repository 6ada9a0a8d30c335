use Rattle.rrs_gdb.proofs.ChangeLemmas.{done_by, sets_register}
use Rattle.rrs_gdb.proofs.session.set_register.Goals as goal

pub returns-clause-done : goal.returns-clause-done
returns-clause-done g c =
    done_by _ _ _ _ _ c.outcome_of.ensures.same c.outcome_of.ensures.done c.change_register-is_changed.ensures.none

pub returns-clause-set : goal.returns-clause-set
returns-clause-set g c =
    let changed = c.change_register-is_changed.ensures in
    sets_register _ _ _ _ _ changed.set changed.refused c.outcome_of.ensures.refused
