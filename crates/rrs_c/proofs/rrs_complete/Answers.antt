-- The step is the kit's, over the same registers, and its last written register is one that C can have.
use Rattle.std.proofs.Common.{refl}
use Rattle.rrs_lib.specs.Machine.{hart_of}
use Rattle.rrs_trace.specs.Outside.{Completes}
use Rattle.rrs_c.specs.Harts.{hart_in, register_in, answer_of}
use Rattle.rrs_c.proofs.Carrying.{finished, left}
use Rattle.rrs_c.proofs.rrs_complete.Goals as goal

pub returns-clause-step : goal.returns-clause-step
returns-clause-step c =
    let hart = c.args.hart.now in
    let done = c.complete_parts-end in
    let end = done.result in
    let number = c.number_of-hart in
    finished (λ old new given answer. Completes old new c.args.word given answer) (hart_in hart) _ (hart_of done.new.registers end.pc end.last_register_write)
    (record { x = done.new.registers; pc = end.pc; last = number.result }) c.given_by.result _ end.answer (answer_of c.fault_of_answer.result)
    refl (λ last. left _ _ number.result _ last number.ensures.register) done.ensures.last c.given_by.ensures
    c.fault_of_answer.ensures.same (done.ensures.step (register_in hart.last))
