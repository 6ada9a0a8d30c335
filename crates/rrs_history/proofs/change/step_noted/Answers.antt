-- The step is that of the hart's parts, a state has one, and what is told takes it back.
use Rattle.std.proofs.Common.{rules, refl}
use Rattle.rrs_lib.proofs.Keeping.{Step-fault, Step-last}
use Rattle.rrs_lib.proofs.Stepping.{Step-unique}
use Rattle.rrs_lib.proofs.Rows.{one_row_at_most}
use Rattle.rrs_history.proofs.Undoing.{change_undone}
use Rattle.rrs_history.proofs.change.step_noted.Goals as goal

pub returns-clause-step : goal.returns-clause-step
returns-clause-step g c = c.record_step-recorded.ensures.step c.args.executor.now.hart_state.now.last_register_write

pub returns-clause-only : goal.returns-clause-only
returns-clause-only g c = λ t answer other.
    Step-unique one_row_at_most _ t _ answer _ other (returns-clause-step g c)

pub returns-clause-fault : goal.returns-clause-fault
returns-clause-fault g c = Step-fault _ _ _ (returns-clause-step g c)

pub returns-clause-last : goal.returns-clause-last
returns-clause-last g c = Step-last _ _ _ (returns-clause-step g c)

pub returns-clause-undoes : goal.returns-clause-undoes
returns-clause-undoes g c =
    let told = c.record_step-recorded.ensures in
    let recorded = c.record_step-recorded.result in
    let change = c.change_of-change.ensures in
    change_undone _ _ _ c.change_of-change.result recorded c.args.executor.now.hart_state.now.registers
    (returns-clause-step g c) refl told.whole.0 (search rules) change.starts change.pc change.last change.register
    change.value change.stored change.address change.bytes told.register told.value told.replaced

pub returns-clause-accesses : goal.returns-clause-accesses
returns-clause-accesses g c =
    c.record_step-recorded.ensures.accesses c.args.executor.now.hart_state.now.last_register_write
