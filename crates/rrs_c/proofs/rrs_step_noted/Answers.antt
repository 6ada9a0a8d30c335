-- The step is the kit's, over the same registers and the same words, and so is the change.
use Rattle.std.proofs.Common.{◌≡◌, rules, refl, ap, subst, sym, ◌∙◌}
use Rattle.rrs_lib.specs.Machine.{State, hart_of}
use Rattle.rrs_lib.specs.Steps.{Step, LastIsRegister}
use Rattle.rrs_lib.proofs.Stepping.{Step-unique}
use Rattle.rrs_lib.proofs.Keeping.{Step-fault}
use Rattle.rrs_lib.proofs.Rows.{one_row_at_most}
use Rattle.rrs_history.specs.Changes.{undone}
use Rattle.rrs_c.specs.Harts.{answer_of, state_in_c}
use Rattle.rrs_c.proofs.Carrying.{carried, left}
use Rattle.rrs_c.proofs.Naming.{all_but_zero}
use Rattle.rrs_c.proofs.rrs_step_noted.Goals as goal

pub change_of-requires-clause-last : goal.change_of-requires-clause-last
change_of-requires-clause-last c =
    subst LastIsRegister (sym c.step_noted_lent.ensures.last_before) c.last_of-last.ensures.last

pub returns-clause-step : goal.returns-clause-step
returns-clause-step c =
    let hart = c.args.hart.now in
    let lent = c.step_noted_lent in
    let end = lent.result.0 in
    carried Step (hart_of hart.x hart.pc c.last_of-last.result) (hart_of lent.new.registers end.pc end.last_register_write) hart (record { x = lent.new.registers; pc = end.pc; last = c.number_of-hart.result })
    c.args.base lent.new.mem.base c.args.words.now lent.new.mem.words.now _
    end.answer (answer_of c.fault_of_answer.result)
    (ap (hart_of hart.x hart.pc) c.last_of-last.ensures.same) (left _ _ c.number_of-hart.result _ lent.ensures.last c.number_of-hart.ensures.register) lent.ensures.lent.same_base (search rules)
    c.fault_of_answer.ensures.same lent.ensures.step

pub returns-clause-only : goal.returns-clause-only
returns-clause-only c = λ t answer other.
    Step-unique one_row_at_most _ t _ answer _ other (returns-clause-step c)

pub returns-clause-fault : goal.returns-clause-fault
returns-clause-fault c = Step-fault _ _ _ (returns-clause-step c)

pub returns-clause-undoes : goal.returns-clause-undoes
returns-clause-undoes c =
    let hart = c.args.hart.now in
    let lent = c.step_noted_lent in
    let end = lent.result.0 in
    let noted = lent.result.1 in
    let back = carried (λ (s t : State) (x : Unit {0}). undone noted t ≡ s) (hart_of hart.x hart.pc c.last_of-last.result) (hart_of lent.new.registers end.pc end.last_register_write) hart (record { x = lent.new.registers; pc = end.pc; last = c.number_of-hart.result })
    c.args.base lent.new.mem.base c.args.words.now lent.new.mem.words.now _ tt tt
    (ap (hart_of hart.x hart.pc) c.last_of-last.ensures.same) (left _ _ c.number_of-hart.result _ lent.ensures.last c.number_of-hart.ensures.register) lent.ensures.lent.same_base (search rules)
    refl lent.ensures.undoes in
    c.change_of.ensures.same _ (all_but_zero lent.new.registers lent.ensures.whole) ∙ back
