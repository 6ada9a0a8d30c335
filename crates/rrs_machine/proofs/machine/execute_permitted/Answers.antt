use Rattle.std.proofs.Common.{sym, ap, ◌∙◌}
use Rattle.rrs_machine.specs.declared.machine.MachineAnswer.TheVariants.{Retired}
use Rattle.rrs_machine.specs.MachineSteps.{MachineState, machine_of, ends, wait_answer, permitted_outcome}
use Rattle.rrs_machine.proofs.machine.execute_permitted.Goals as goal

pub returns-in-Mret-clause-outcome : goal.returns-in-Mret-clause-outcome
returns-in-Mret-clause-outcome c = λ bytes writable.
    let s = machine_of c.args.hart.now c.args.csrs.now bytes writable in
    ap (λ (x : MachineState). ends x Retired) (c.return_from_trap.ensures.returned bytes writable)
    ∙ ap (λ r. permitted_outcome r c.args.instruction.now.fields c.args.word c.args.inputs.now s) (sym c.in-Mret.is)

pub returns-in-Wfi-clause-outcome : goal.returns-in-Wfi-clause-outcome
returns-in-Wfi-clause-outcome c = λ bytes writable.
    let s = machine_of c.args.hart.now c.args.csrs.now bytes writable in
    let answer = c.answer_of_wait-answer.ensures ∙ ap wait_answer c.ready_interrupt.ensures in
    (λ k. ends (c.pass.ensures.passed bytes writable k) (answer k))
    ∙ ap (λ r. permitted_outcome r c.args.instruction.now.fields c.args.word c.args.inputs.now s) (sym c.in-Wfi.is)
