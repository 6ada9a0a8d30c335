use Rattle.std.proofs.Common.{refl, sym, ap, ◌∙◌}
use Rattle.rrs_lib.specs.Machine.{state_of}
use Rattle.rrs_machine.specs.declared.traps.Exception.TheVariants.{InstructionMisaligned}
use Rattle.rrs_machine.specs.MachineSteps.{machine, raised}
use Rattle.rrs_machine.proofs.Ending.{retires_by, strays_by}
use Rattle.rrs_machine.proofs.machine.end_executed.Goals as goal

pub returns-then-may_lie-clause-step : goal.returns-then-may_lie-clause-step
returns-then-may_lie-clause-step c = λ inputs bytes writable s before registers at step.
    let h = state_of c.args.hart.now bytes writable in
    retires_by c.args.csrs.now s h before inputs _ _ step (sym c.may_lie.ensures ∙ c.if-may_lie.true)
    (ap (λ x. machine h x) c.count_retired.ensures) refl

pub returns-clause-step : goal.returns-clause-step
returns-clause-step c = λ inputs bytes writable s before registers at step.
    let h = state_of c.args.hart.now bytes writable in
    let last = c.args.hart.now.last_register_write in
    strays_by c.args.csrs.now s h before inputs _ _ last step (sym c.may_lie.ensures ∙ c.if-may_lie.false)
    (c.raise.ensures.raised bytes writable
    ∙ (λ k. raised (InstructionMisaligned h.pc)
    (machine (record { registers = sym registers k; pc = sym at k; last = last; bytes = bytes; writable = writable }) c.args.csrs.now)))
    c.raise.ensures.answer
