use Rattle.std.proofs.Common.{[], refl, sym, ◌∙◌}
use Rattle.std.proofs.lemmas.Option.{none-some}
use Rattle.rrs_machine.specs.MachineSteps.{machine_of, Interrupts, Proceeds, OfInterrupt, OfInstruction}
use Rattle.rrs_machine.proofs.MachineStepping.{AccessesOfMachineStep-unique}
use Rattle.rrs_machine.proofs.retired.see_step.Goals as goal

pub returns-in-Some-clause-step : goal.returns-in-Some-clause-step
returns-in-Some-clause-step g c =
    let memory = g.M.Memory in
    let mem = c.args.mem.now in
    Interrupts c.in-Some.due (sym c.interrupt_due.ensures ∙ c.in-Some.is)
    (c.interrupt.ensures.interrupted (memory.bytes mem) (memory.writable mem)) c.interrupt.ensures.answer

pub returns-in-Some-clause-accesses : goal.returns-in-Some-clause-accesses
returns-in-Some-clause-accesses g c =
    let memory = g.M.Memory in
    let i = c.args.inputs.now in
    let s = machine_of c.args.hart.now c.args.csrs.now (memory.bytes c.args.mem.now) (memory.writable c.args.mem.now) in
    let these = OfInterrupt c.in-Some.due (sym c.interrupt_due.ensures ∙ c.in-Some.is) refl in
    record {
      accesses = [];
      these = these;
      only = λ others of. AccessesOfMachineStep-unique i s others [] of these;
      made = refl;
    }

pub returns-in-None-clause-step : goal.returns-in-None-clause-step
returns-in-None-clause-step g c = Proceeds (sym c.interrupt_due.ensures ∙ c.in-None.is) c.see_instruction.ensures.step

pub returns-in-None-clause-accesses : goal.returns-in-None-clause-accesses
returns-in-None-clause-accesses g c =
    let memory = g.M.Memory in
    let i = c.args.inputs.now in
    let s = machine_of c.args.hart.now c.args.csrs.now (memory.bytes c.args.mem.now) (memory.writable c.args.mem.now) in
    let exactly = c.see_instruction.ensures.accesses in
    let these = OfInstruction (sym c.interrupt_due.ensures ∙ c.in-None.is) exactly.these in
    record {
      accesses = exactly.accesses;
      these = these;
      only = λ others of. AccessesOfMachineStep-unique i s others exactly.accesses of these;
      made = exactly.made;
    }

pub returns-in-None-clause-access : goal.returns-in-None-clause-access
returns-in-None-clause-access g c = record {
  of_hart = λ u answer none step. c.see_instruction.ensures.access u answer step;
  of_interrupt = λ x due. absurd (none-some x (sym (sym c.interrupt_due.ensures ∙ c.in-None.is) ∙ due));
}
