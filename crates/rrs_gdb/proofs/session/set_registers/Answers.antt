use Rattle.rrs_gdb.proofs.ChangeLemmas.{done_by, sets_registers}
use Rattle.rrs_gdb.proofs.session.set_registers.Goals as goal

pub returns-clause-done : goal.returns-clause-done
returns-clause-done g c =
    done_by _ _ _ _ _ c.outcome_of.ensures.same c.outcome_of.ensures.done c.in_ok-is_changed.ensures.none

pub returns-clause-set : goal.returns-clause-set
returns-clause-set g c =
    let changed = c.in_ok-is_changed.ensures in
    sets_registers _ _ _ _ _ c.change_registers.ensures.kept changed.set changed.refused c.outcome_of.ensures.refused
