use Rattle.std.proofs.Common.{◌∙◌}
use Rattle.rrs_machine.specs.MachineSteps.{machine_of, trapped}
use Rattle.rrs_machine.proofs.machine.raise.Goals as goal

pub returns-clause-raised : goal.returns-clause-raised
returns-clause-raised c = λ bytes writable.
    let s = machine_of c.args.hart.now c.args.csrs.now bytes writable in
    c.trap.ensures.trapped bytes writable
    ∙ (λ k. trapped (c.code.ensures k) (c.value.ensures k) (c.base-base.ensures k) s)
