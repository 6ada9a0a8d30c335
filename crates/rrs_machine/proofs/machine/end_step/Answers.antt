use Rattle.std.proofs.Common.{subst}
use Rattle.rrs_lib.specs.Machine.{state_of}
use Rattle.rrs_hart.specs.Harts.{hart_with, HartStep}
use Rattle.rrs_machine.specs.MachineSteps.{hart_in, layers_of}
use Rattle.rrs_machine.proofs.machine.end_step.Goals as goal

pub returns-in-Ok-clause-step : goal.returns-in-Ok-clause-step
returns-in-Ok-clause-step c = λ bytes writable s before registers at there step.
    let u = hart_with (state_of c.args.hart.now bytes writable) c.args.csrs.now.reservation in
    c.end_executed.ensures.step c.args.inputs.now bytes writable s before registers at
    (subst (λ a. HartStep (layers_of s) (hart_in s) u a) c.in-Ok.is step)

pub returns-in-Err-clause-step : goal.returns-in-Err-clause-step
returns-in-Err-clause-step c = λ bytes writable s before registers at there step.
    let u = hart_with (state_of c.args.hart.now bytes writable) c.args.csrs.now.reservation in
    c.end_fault.ensures.step bytes writable s before there
    (subst (λ a. HartStep (layers_of s) (hart_in s) u a) c.in-Err.is step)
