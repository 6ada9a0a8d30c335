-- The step is the kit's, over the same registers and the same words, and a state has one.
use Rattle.std.proofs.Common.{rules, refl}
use Rattle.rrs_lib.specs.Machine.{hart_of}
use Rattle.rrs_lib.specs.Steps.{Step}
use Rattle.rrs_lib.proofs.Stepping.{Step-unique}
use Rattle.rrs_lib.proofs.Rows.{one_row_at_most}
use Rattle.rrs_trace.specs.Retired.{Retires}
use Rattle.rrs_c.specs.Harts.{register_in, answer_of}
use Rattle.rrs_c.specs.Records.{retired_in}
use Rattle.rrs_c.proofs.Carrying.{carried, left, both}
use Rattle.rrs_c.proofs.rrs_step_rvfi.Goals as goal

pub returns-clause-step : goal.returns-clause-step
returns-clause-step c =
    let hart = c.args.hart.now in
    let lent = c.step_retired_lent in
    let end = lent.result.0 in
    carried Step (hart_of hart.x hart.pc (register_in hart.last)) (hart_of lent.new.registers end.pc end.last_register_write) hart (record { x = lent.new.registers; pc = end.pc; last = c.number_of-hart.result })
    c.args.base lent.new.mem.base c.args.words.now lent.new.mem.words.now _
    end.answer (answer_of c.fault_of_answer.result)
    refl (left _ _ c.number_of-hart.result _ lent.ensures.last c.number_of-hart.ensures.register) lent.ensures.lent.same_base (search rules)
    c.fault_of_answer.ensures.same (lent.ensures.step (register_in hart.last))

pub returns-clause-only : goal.returns-clause-only
returns-clause-only c = λ t answer other.
    Step-unique one_row_at_most _ t _ answer _ other (returns-clause-step c)

pub returns-clause-retires : goal.returns-clause-retires
returns-clause-retires c =
    let hart = c.args.hart.now in
    let lent = c.step_retired_lent in
    let end = lent.result.0 in
    carried (λ s t told. Retires c.args.order s t told.0 told.1) (hart_of hart.x hart.pc (register_in hart.last)) (hart_of lent.new.registers end.pc end.last_register_write) hart (record { x = lent.new.registers; pc = end.pc; last = c.number_of-hart.result })
    c.args.base lent.new.mem.base c.args.words.now lent.new.mem.words.now _
    (end.answer, lent.result.1) (answer_of c.fault_of_answer.result, retired_in c.written_out.result)
    refl (left _ _ c.number_of-hart.result _ lent.ensures.last c.number_of-hart.ensures.register) lent.ensures.lent.same_base (search rules)
    (both _ _ _ _ c.fault_of_answer.ensures.same c.written_out.ensures.same) (lent.ensures.retires (register_in hart.last))
