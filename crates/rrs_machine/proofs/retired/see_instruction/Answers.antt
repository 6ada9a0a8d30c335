use Rattle.std.proofs.Common.{refl, sym, subst}
use Rattle.rrs_machine.specs.MachineSteps.{machine_of, hart_in}
use Rattle.rrs_hart.proofs.HartSteps.{HartStep-unique}
use Rattle.rrs_trace.specs.HartRecords.{HasAccess}
use Rattle.rrs_machine.proofs.retired.see_instruction.Goals as goal

pub returns-clause-step : goal.returns-clause-step
returns-clause-step g c =
    let memory = g.M.Memory in
    let s = machine_of c.args.hart.now c.args.csrs.now (memory.bytes c.args.mem.now) (memory.writable c.args.mem.now) in
    let made = c.see_layers in
    c.end_step-answer.ensures.step (memory.bytes made.new.mem) (memory.writable made.new.mem) s refl refl refl (sym made.ensures.fetched) made.ensures.step

pub returns-clause-access : goal.returns-clause-access
returns-clause-access g c = λ u answer step.
    let memory = g.M.Memory in
    let s = machine_of c.args.hart.now c.args.csrs.now (memory.bytes c.args.mem.now) (memory.writable c.args.mem.now) in
    let p = c.args.csrs.now.profile.hart in
    let made = c.see_layers in
    subst (λ a. HasAccess p (hart_in s) a made.result.1) (HartStep-unique p (hart_in s) _ u _ answer made.ensures.step step).1 made.ensures.access
