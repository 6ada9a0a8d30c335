use Rattle.std.proofs.Common.{[], refl, sym, ◌∙◌}
use Rattle.rrs_machine.specs.MachineSteps.{machine_in, Interrupts, Proceeds, OfInterrupt, OfInstruction}
use Rattle.rrs_machine.proofs.MachineLaws.{step_keeps, step_of_hart, step_minstret, step_mcycle}
use Rattle.rrs_machine.proofs.MachineStepping.{MachineStep-unique, AccessesOfMachineStep-unique}
use Rattle.rrs_machine.proofs.machine.step_machine.Goals as goal

pub returns-in-Some-clause-step : goal.returns-in-Some-clause-step
returns-in-Some-clause-step g c =
    let memory = g.M.Memory in
    let e = c.args.executor.now in
    Interrupts c.in-Some.due (sym c.interrupt_due.ensures ∙ c.in-Some.is)
    (c.interrupt.ensures.interrupted (memory.bytes e.mem.now) (memory.writable e.mem.now)) c.interrupt.ensures.answer

pub returns-in-Some-clause-only : goal.returns-in-Some-clause-only
returns-in-Some-clause-only g c = λ t answer other.
    MachineStep-unique _ _ t _ answer _ other (returns-in-Some-clause-step g c)

pub returns-in-Some-clause-accesses : goal.returns-in-Some-clause-accesses
returns-in-Some-clause-accesses g c =
    let memory = g.M.Memory in
    let i = c.args.inputs.now in
    let s = machine_in memory.bytes memory.writable c.args.executor.now c.args.csrs.now in
    let these = OfInterrupt c.in-Some.due (sym c.interrupt_due.ensures ∙ c.in-Some.is) refl in
    record {
      accesses = [];
      these = these;
      only = λ others of. AccessesOfMachineStep-unique i s others [] of these;
      made = refl;
    }

pub returns-in-None-clause-step : goal.returns-in-None-clause-step
returns-in-None-clause-step g c =
    Proceeds (sym c.interrupt_due.ensures ∙ c.in-None.is) c.step_instruction.ensures.step

pub returns-in-None-clause-only : goal.returns-in-None-clause-only
returns-in-None-clause-only g c = λ t answer other.
    MachineStep-unique _ _ t _ answer _ other (returns-in-None-clause-step g c)

pub returns-in-None-clause-accesses : goal.returns-in-None-clause-accesses
returns-in-None-clause-accesses g c =
    let memory = g.M.Memory in
    let i = c.args.inputs.now in
    let s = machine_in memory.bytes memory.writable c.args.executor.now c.args.csrs.now in
    let exactly = c.step_instruction.ensures.accesses in
    let these = OfInstruction (sym c.interrupt_due.ensures ∙ c.in-None.is) exactly.these in
    record {
      accesses = exactly.accesses;
      these = these;
      only = λ others of. AccessesOfMachineStep-unique i s others exactly.accesses of these;
      made = exactly.made;
    }

pub returns-in-Some-clause-traps : goal.returns-in-Some-clause-traps
returns-in-Some-clause-traps g c = step_keeps _ _ _ _ (returns-in-Some-clause-step g c)

pub returns-in-Some-clause-hart : goal.returns-in-Some-clause-hart
returns-in-Some-clause-hart g c = step_of_hart _ _ _ _ (returns-in-Some-clause-step g c)

pub returns-in-Some-clause-minstret : goal.returns-in-Some-clause-minstret
returns-in-Some-clause-minstret g c = step_minstret _ _ _ _ (returns-in-Some-clause-step g c)

pub returns-in-Some-clause-mcycle : goal.returns-in-Some-clause-mcycle
returns-in-Some-clause-mcycle g c = step_mcycle _ _ _ _ (returns-in-Some-clause-step g c)

pub returns-in-None-clause-traps : goal.returns-in-None-clause-traps
returns-in-None-clause-traps g c = step_keeps _ _ _ _ (returns-in-None-clause-step g c)

pub returns-in-None-clause-hart : goal.returns-in-None-clause-hart
returns-in-None-clause-hart g c = step_of_hart _ _ _ _ (returns-in-None-clause-step g c)

pub returns-in-None-clause-minstret : goal.returns-in-None-clause-minstret
returns-in-None-clause-minstret g c = step_minstret _ _ _ _ (returns-in-None-clause-step g c)

pub returns-in-None-clause-mcycle : goal.returns-in-None-clause-mcycle
returns-in-None-clause-mcycle g c = step_mcycle _ _ _ _ (returns-in-None-clause-step g c)
