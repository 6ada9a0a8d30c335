use Rattle.std.proofs.Common.{refl, sym}
use Rattle.rrs_machine.specs.MachineSteps.{machine_of}
use Rattle.rrs_machine.proofs.machine.step_instruction.Goals as goal

pub returns-clause-step : goal.returns-clause-step
returns-clause-step g c =
    let memory = g.M.Memory in
    let s = machine_of c.args.hart.now c.args.csrs.now (memory.bytes c.args.mem.now) (memory.writable c.args.mem.now) in
    let made = c.step_layers-end in
    c.end_step.ensures.step (memory.bytes made.new.mem) (memory.writable made.new.mem) s refl refl refl (sym made.ensures.fetched) made.ensures.step
