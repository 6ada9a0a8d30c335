use Rattle.std.proofs.Common.{arith}
use Rattle.std.proofs.lemmas.List.{take_more_set, take_all}
use Rattle.rrs_lib.proofs.Making.{exactly-more}
use Rattle.rrs_lib.proofs.Stepping.{Run-more, Run-unique, KeepsTheRest-trans}
use Rattle.rrs_lib.proofs.Keeping.{Run-last}
use Rattle.rrs_instruction.proofs.Rows.{one_row_at_most}
use Rattle.rrs_lib.proofs.instruction_executor.InstructionExecutor.step_each.Goals as goal

pub loop-answer-preserved : goal.loop-answer-preserved
loop-answer-preserved g c =
    let so_far = c.loop-answer.invariant in
    let step = c.step.ensures in
    let more = take_more_set c.loop-answer.answers c.loop-answer.answer-index c.step.result (omega arith) in
    record {
      accesses = rw more (exactly-more _ _ one_row_at_most _ _ _ _ _ _ _ _ so_far.run so_far.accesses step.step step.accesses);
      run = rw more (Run-more _ _ _ _ _ so_far.run step.step);
      rest = KeepsTheRest-trans _ _ _ _ so_far.rest step.rest;
    }

pub returns-clause-only : goal.returns-clause-only
returns-clause-only g c = λ answers t same_length other.
    Run-unique one_row_at_most _ t _ answers _ same_length other
    (rw (take_all c.loop-answer.answer-index c.loop-answer.answers (omega arith)) at c.loop-answer.invariant.run)

pub returns-clause-accesses : goal.returns-clause-accesses
returns-clause-accesses g c =
    rw (take_all c.loop-answer.answer-index c.loop-answer.answers (omega arith)) at c.loop-answer.invariant.accesses

pub returns-clause-last : goal.returns-clause-last
returns-clause-last g c = Run-last _ _ _ c.loop-answer.invariant.run
