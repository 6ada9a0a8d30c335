use Rattle.std.proofs.Common.{sym, subst, ap, ◌∙◌}
use Rattle.rrs_lib.specs.Machine.{state_of}
use Rattle.rrs_machine.specs.Traps.{IsKind}
use Rattle.rrs_machine.specs.MachineSteps.{machine_of, system_outcome}
use Rattle.rrs_machine.proofs.Ending.{executes_by, faults_by, fetched_none, other_fetched}
use Rattle.rrs_machine.proofs.machine.end_fault.Goals as goal

pub returns-in-Some-clause-step : goal.returns-in-Some-clause-step
returns-in-Some-clause-step c = λ bytes writable s before there step.
    let h = state_of c.args.hart.now bytes writable in
    let i = c.in-Some.instruction in
    executes_by c.args.csrs.now s h before c.args.inputs.now _ _ c.args.fault c.in-Ok.encoding i.row i.fields step
    (there ∙ c.in-Ok.is) c.in-Some.ensures.own
    (c.execute_system.ensures.outcome bytes writable
    ∙ ap (λ w. system_outcome i.row i.fields w c.args.inputs.now (machine_of c.args.hart.now c.args.csrs.now bytes writable)) c.bits_of.ensures)

pub returns-in-None-clause-step : goal.returns-in-None-clause-step
returns-in-None-clause-step c = λ bytes writable s before there step.
    let h = state_of c.args.hart.now bytes writable in
    let raised = c.raise_fault.ensures.raised bytes writable in
    faults_by c.args.csrs.now s h before c.args.inputs.now _ _ c.args.fault raised.0 step
    (other_fetched s c.in-Ok.encoding (there ∙ c.in-Ok.is) c.in-None.ensures.outside)
    (subst (λ x. IsKind c.args.csrs.now.profile.hart x raised.0) (sym (there ∙ c.in-Ok.is)) raised.1) raised.2 raised.3

pub returns-in-Err-clause-step : goal.returns-in-Err-clause-step
returns-in-Err-clause-step c = λ bytes writable s before there step.
    let h = state_of c.args.hart.now bytes writable in
    let raised = c.raise_fault-in-Err.ensures.raised bytes writable in
    faults_by c.args.csrs.now s h before c.args.inputs.now _ _ c.args.fault raised.0 step
    (fetched_none s c.in-Err.field-0 (there ∙ c.in-Err.is))
    (subst (λ x. IsKind c.args.csrs.now.profile.hart x raised.0) (sym there) raised.1) raised.2 raised.3
