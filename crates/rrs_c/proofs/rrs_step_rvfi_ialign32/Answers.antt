-- The step is the kit's, but where it leaves a misaligned pc: then nothing changed, and a state has one such step.
use Rattle.std.proofs.Common.{rules, refl, sym, ap, subst, ◌∙◌}
use Rattle.rrs_lib.specs.declared.instruction_executor.InstructionException.TheVariants.{AlignmentFault}
use Rattle.rrs_lib.specs.Machine.{hart_of}
use Rattle.rrs_trace.specs.Retired.{Retires}
use Rattle.rrs_c.specs.Harts.{register_in, answer_of, state_in_c, slice_state, answer_or}
use Rattle.rrs_c.specs.Records.{retired_in}
use Rattle.rrs_c.specs.Jumps.{StepAtJump}
use Rattle.rrs_c.proofs.Carrying.{carried, left, both}
use Rattle.rrs_c.proofs.Jumping.{steps_aside, steps_on, restored, retires_aside, StepAtJump-unique}
use Rattle.rrs_c.proofs.rrs_step_rvfi_ialign32.Goals as goal

pub returns-then-jumps_aside-clause-step : goal.returns-then-jumps_aside-clause-step
returns-then-jumps_aside-clause-step c =
    let hart = c.args.hart.now in
    let lent = c.step_retired_lent in
    let end = lent.result.0 in
    let u = slice_state (hart_of lent.new.registers end.pc end.last_register_write) lent.new.mem in
    let step = lent.ensures.step (register_in hart.last) in
    let is = sym c.jumps_aside.ensures ∙ c.if-jumps_aside.true in
    steps_aside (state_in_c hart c.args.base c.args.words.now) u _ end.answer _ step is
    (restored hart c.args.base lent.new.mem.base c.args.words.now lent.new.mem.words.now _ u end.answer step is refl refl
    lent.ensures.lent.same_base (search rules))
    (ap answer_or c.fault_of.ensures.same)

pub returns-then-jumps_aside-clause-only : goal.returns-then-jumps_aside-clause-only
returns-then-jumps_aside-clause-only c = λ t answer other.
    StepAtJump-unique _ _ t _ answer (returns-then-jumps_aside-clause-step c) other

pub returns-then-jumps_aside-clause-retires : goal.returns-then-jumps_aside-clause-retires
returns-then-jumps_aside-clause-retires c =
    let hart = c.args.hart.now in
    let lent = c.step_retired_lent in
    let end = lent.result.0 in
    let u = slice_state (hart_of lent.new.registers end.pc end.last_register_write) lent.new.mem in
    let step = lent.ensures.step (register_in hart.last) in
    let is = sym c.jumps_aside.ensures ∙ c.if-jumps_aside.true in
    subst (Retires c.args.order _ _ _) (sym (c.written_out.ensures.same ∙ c.refused.ensures))
    (retires_aside c.args.order (state_in_c hart c.args.base c.args.words.now) u _ end.answer _ (AlignmentFault end.pc) lent.result.1
    (lent.ensures.retires (register_in hart.last))
    (restored hart c.args.base lent.new.mem.base c.args.words.now lent.new.mem.words.now _ u end.answer step is refl refl
    lent.ensures.lent.same_base (search rules))
    (ap answer_or c.fault_of.ensures.same))

pub returns-clause-step : goal.returns-clause-step
returns-clause-step c =
    let hart = c.args.hart.now in
    let lent = c.step_retired_lent in
    let end = lent.result.0 in
    carried (λ s t answer. StepAtJump s t answer) (hart_of hart.x hart.pc (register_in hart.last)) (hart_of lent.new.registers end.pc end.last_register_write) hart (record { x = lent.new.registers; pc = end.pc; last = c.number_of-hart.result })
    c.args.base lent.new.mem.base c.args.words.now lent.new.mem.words.now _
    end.answer (answer_of c.fault_of_answer.result)
    refl (left _ _ c.number_of-hart.result _ lent.ensures.last c.number_of-hart.ensures.register) lent.ensures.lent.same_base (search rules)
    c.fault_of_answer.ensures.same
    (steps_on _ _ _ (lent.ensures.step (register_in hart.last)) (sym c.jumps_aside.ensures ∙ c.if-jumps_aside.false))

pub returns-clause-only : goal.returns-clause-only
returns-clause-only c = λ t answer other.
    StepAtJump-unique _ _ t _ answer (returns-clause-step c) other

pub returns-clause-retires : goal.returns-clause-retires
returns-clause-retires c =
    let hart = c.args.hart.now in
    let lent = c.step_retired_lent in
    let end = lent.result.0 in
    carried (λ s t told. Retires c.args.order s t told.0 told.1) (hart_of hart.x hart.pc (register_in hart.last)) (hart_of lent.new.registers end.pc end.last_register_write) hart (record { x = lent.new.registers; pc = end.pc; last = c.number_of-hart.result })
    c.args.base lent.new.mem.base c.args.words.now lent.new.mem.words.now _
    (end.answer, lent.result.1) (answer_of c.fault_of_answer.result, retired_in c.written_out-2.result)
    refl (left _ _ c.number_of-hart.result _ lent.ensures.last c.number_of-hart.ensures.register) lent.ensures.lent.same_base (search rules)
    (both _ _ _ _ c.fault_of_answer.ensures.same c.written_out-2.ensures.same) (lent.ensures.retires (register_in hart.last))
