-- What was seen is what is told.
use Rattle.std.proofs.Common.{rules, refl, subst, ap, ◌∙◌}
use Rattle.rrs_lib.specs.Machine.{state_of}
use Rattle.rrs_machine.specs.Csrs.{mode_number}
use Rattle.rrs_machine.specs.MachineSteps.{machine}
use Rattle.rrs_machine.specs.MachineRecords.{bits_if, HasSourcesOf, HasCsrAccess}
use Rattle.rrs_machine.proofs.MachineStepping.{MachineStep-unique}
use Rattle.rrs_machine.proofs.LastRegister.{machine_last}
use Rattle.rrs_machine.proofs.retired.step_machine_retired.Goals as goal

pub last_register-rd_addr-requires : goal.last_register-rd_addr-requires
last_register-rd_addr-requires g c = machine_last _ _ _ _ c.see_step-seen.ensures.step

pub returns-clause-only : goal.returns-clause-only
returns-clause-only g c = λ t answer other. MachineStep-unique _ _ t _ answer _ other c.see_step-seen.ensures.step

pub returns-clause-retires : goal.returns-clause-retires
returns-clause-retires g c =
    let memory = g.M.Memory in
    let e = c.args.executor.now in
    let i = c.args.inputs.now in
    let file = c.args.csrs.now in
    let seen = c.see_step-seen.ensures in
    let answer = c.see_step-seen.result.answer in
    let s = state_of e.hart_state.now (memory.bytes e.mem.now) (memory.writable e.mem.now) in
    let made = c.see_step-seen.new in
    let t = state_of made.hart (memory.bytes made.mem) (memory.writable made.mem) in
    let told = c.sources_of-rs1_addr.ensures in
    let sources : HasSourcesOf file.profile.hart c.see_step-seen.result.encoding c.sources_of-rs1_addr.result.0 c.sources_of-rs1_addr.result.1 = record {
      of_row = told.of_row;
      of_layer = told.of_layer;
      of_system = told.of_system;
      of_illegal = told.of_illegal;
      of_none = told.of_none;
    } in
    record {
      valid_is = search rules;
      intr_is = search rules;
      mode_is = c.number-mode.ensures.number ∙ ap mode_number c.mode.ensures;
      cause_is = search rules;
      order_is = refl;
      insn_is = c.bits_if.ensures ∙ ap bits_if seen.encoding;
      trap_is = search rules;
      pc_before = refl;
      pc_after = refl;
      sources = subst (λ x. HasSourcesOf file.profile.hart x c.sources_of-rs1_addr.result.0 c.sources_of-rs1_addr.result.1) seen.encoding sources;
      first_value = c.register_value.ensures s refl;
      second_value = c.register_value-2.ensures s refl;
      written = c.last_register-rd_addr.ensures.number;
      written_value = c.register_value-3.ensures t refl;
      access = seen.access;
      csr = subst (λ x. HasCsrAccess x answer i (machine s file) c.csr_of_step-csr.result) seen.encoding
          (c.csr_of_step-csr.ensures s refl);
    }
