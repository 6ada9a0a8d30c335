use Rattle.std.proofs.Common.{◌+◌, ◌∙◌, ap}
use Rattle.rrs_machine.specs.Traps.{vector_of}
use Rattle.rrs_machine.specs.MachineSteps.{machine_of, trapped}
use Rattle.rrs_machine.proofs.machine.interrupt.Goals as goal

pub returns-clause-interrupted : goal.returns-clause-interrupted
returns-clause-interrupted c = λ bytes writable.
    let s = machine_of c.args.hart.now c.args.csrs.now bytes writable in
    let target = c.vector-target.ensures ∙ ap (λ n. vector_of n c.args.csrs.now) c.code-code.ensures.code in
    c.trap.ensures.trapped bytes writable
    ∙ (λ k. trapped (2147483648 + c.code-code.ensures.code k) 0 (target k) s)
