-- The step is that of the hart's parts, and what is told takes it back.
use Rattle.std.proofs.Common.{rules, refl, None}
use Rattle.rrs_lib.proofs.Keeping.{Step-last}
use Rattle.rrs_history.proofs.Undoing.{change_undone}
use Rattle.rrs_history.proofs.change.step_noted_parts.Goals as goal

pub returns-clause-step : goal.returns-clause-step
returns-clause-step g c = c.record_step-recorded.ensures.step c.args.last

pub returns-clause-last : goal.returns-clause-last
returns-clause-last g c = Step-last _ _ _ (c.record_step-recorded.ensures.step None)

pub returns-clause-undoes : goal.returns-clause-undoes
returns-clause-undoes g c =
    let told = c.record_step-recorded.ensures in
    let recorded = c.record_step-recorded.result in
    let change = c.change_of.ensures in
    change_undone _ _ _ c.change_of.result recorded c.args.registers.now (told.step c.args.last) refl told.whole.0
    (search rules) change.starts change.pc change.last change.register change.value change.stored change.address
    change.bytes told.register told.value told.replaced
