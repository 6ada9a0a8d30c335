-- The step is the kit's, over the same hart and the same words, and a state has one.
use Rattle.std.proofs.Common.{◌==◌, rules, sym}
use Rattle.rrs_machine.specs.declared.csrs.CsrFile.{CsrFile}
use Rattle.rrs_machine.specs.declared.csrs.Inputs.{Inputs}
use Rattle.rrs_machine.specs.declared.machine.MachineAnswer.{MachineAnswer}
use Rattle.rrs_machine.specs.MachineSteps.{machine, MachineStep}
use Rattle.rrs_machine.proofs.MachineStepping.{MachineStep-unique}
use Rattle.rrs_machine.specs.declared.retired.MachineRetired.{MachineRetired}
use Rattle.rrs_machine.specs.MachineRecords.{MachineRetires}
use Rattle.rrs_lib.specs.Machine.{State}
use Rattle.rrs_c.specs.Machines.{csrs_in, inputs_in, machine_answer, machine_retired_in}
use Rattle.rrs_c.proofs.Carrying.{carried}
use Rattle.rrs_c.proofs.rrs_machine_step.Goals as goal

pub returns-clause-step : goal.returns-clause-step
returns-clause-step c =
    let lent = c.machine_step_lent-answer in
    carried (λ (s t : State) (x : CsrFile × CsrFile × Inputs × MachineAnswer). MachineStep x.2 (machine s x.0) (machine t x.1) x.3)
    c.opened-state.result lent.new.hart_state c.args.hart.now c.close.new.hart
    c.args.base lent.new.mem.base c.args.words.now lent.new.mem.words.now _
    (c.file_of-file.result, lent.new.csrs, c.inputs_of-inputs.result, lent.result.0)
    (csrs_in c.args.csrs.now, csrs_in c.csrs_of.result, inputs_in c.args.mip c.args.time, machine_answer c.outcome_of.result)
    c.opened-state.ensures.same (c.close.ensures.same lent.ensures.last) lent.ensures.lent.same_base (search rules)
    (λ i. (sym c.file_of-file.ensures i, c.csrs_of.ensures.same i, sym c.inputs_of-inputs.ensures i, c.outcome_of.ensures.same i))
    lent.ensures.step

pub returns-clause-only : goal.returns-clause-only
returns-clause-only c = λ t answer other.
    MachineStep-unique _ _ t _ answer _ other (returns-clause-step c)

pub returns-clause-retires : goal.returns-clause-retires
returns-clause-retires c =
    let lent = c.machine_step_lent-answer in
    carried (λ (s t : State) (x : CsrFile × CsrFile × Inputs × MachineAnswer × MachineRetired).
    MachineRetires c.args.order (c.args.csrs.now.trapped == 1) x.2 (machine s x.0) (machine t x.1) x.3 x.4)
    c.opened-state.result lent.new.hart_state c.args.hart.now c.close.new.hart
    c.args.base lent.new.mem.base c.args.words.now lent.new.mem.words.now _
    (c.file_of-file.result, lent.new.csrs, c.inputs_of-inputs.result, lent.result.0, lent.result.1)
    (csrs_in c.args.csrs.now, csrs_in c.csrs_of.result, inputs_in c.args.mip c.args.time, machine_answer c.outcome_of.result, machine_retired_in c.machine_written_out-record.result)
    c.opened-state.ensures.same (c.close.ensures.same lent.ensures.last) lent.ensures.lent.same_base (search rules)
    (λ i. (sym c.file_of-file.ensures i, c.csrs_of.ensures.same i, sym c.inputs_of-inputs.ensures i, c.outcome_of.ensures.same i, c.machine_written_out-record.ensures.same i))
    lent.ensures.retires
