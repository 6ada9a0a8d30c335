-- Each clause is a part of what is said of the answer by its subject.
use Rattle.rrs_gdb.proofs.AnswerLemmas.{on_means}
use Rattle.rrs_gdb.proofs.session.answer_to.Goals as goal

pub returns-clause-asks : goal.returns-clause-asks
returns-clause-asks g c = c.answer_by_subject.ensures.leaves.asks

pub returns-clause-registers : goal.returns-clause-registers
returns-clause-registers g c = c.answer_by_subject.ensures.leaves.registers

pub returns-clause-memory : goal.returns-clause-memory
returns-clause-memory g c = c.answer_by_subject.ensures.leaves.memory

pub returns-clause-environment : goal.returns-clause-environment
returns-clause-environment g c = c.answer_by_subject.ensures.leaves.environment

pub returns-clause-breaks : goal.returns-clause-breaks
returns-clause-breaks g c = c.answer_by_subject.ensures.leaves.breaks

pub returns-clause-settings : goal.returns-clause-settings
returns-clause-settings g c = c.answer_by_subject.ensures.leaves.settings

pub returns-clause-history : goal.returns-clause-history
returns-clause-history g c = c.answer_by_subject.ensures.leaves.history

pub returns-clause-step : goal.returns-clause-step
returns-clause-step g c = λ is. on_means _ _ _ _ c.answer_by_subject.ensures.means (λ m. m.goes.step is)

pub returns-clause-goes_on : goal.returns-clause-goes_on
returns-clause-goes_on g c = λ is. on_means _ _ _ _ c.answer_by_subject.ensures.means (λ m. m.goes.goes_on is)

pub returns-clause-steps : goal.returns-clause-steps
returns-clause-steps g c = λ is. on_means _ _ _ _ c.answer_by_subject.ensures.means (λ m. m.goes.steps is)

pub returns-clause-continues : goal.returns-clause-continues
returns-clause-continues g c = λ is. on_means _ _ _ _ c.answer_by_subject.ensures.means (λ m. m.goes.continues is)

pub returns-clause-step_signal : goal.returns-clause-step_signal
returns-clause-step_signal g c = λ is. on_means _ _ _ _ c.answer_by_subject.ensures.means (λ m. m.goes.step_signal is)

pub returns-clause-signal : goal.returns-clause-signal
returns-clause-signal g c = λ is. on_means _ _ _ _ c.answer_by_subject.ensures.means (λ m. m.goes.signal is)

pub returns-clause-resumes : goal.returns-clause-resumes
returns-clause-resumes g c = λ is. on_means _ _ _ _ c.answer_by_subject.ensures.means (λ m. m.acts.goes_on is)

pub returns-clause-steps_back : goal.returns-clause-steps_back
returns-clause-steps_back g c = λ is. on_means _ _ _ _ c.answer_by_subject.ensures.means (λ m. m.returns.step is)

pub returns-clause-goes_back : goal.returns-clause-goes_back
returns-clause-goes_back g c = λ is. on_means _ _ _ _ c.answer_by_subject.ensures.means (λ m. m.returns.goes_back is)

pub returns-clause-shows_registers : goal.returns-clause-shows_registers
returns-clause-shows_registers g c = λ is. on_means _ _ _ _ c.answer_by_subject.ensures.means (λ m. m.shows.registers is)

pub returns-clause-sets_registers : goal.returns-clause-sets_registers
returns-clause-sets_registers g c = λ is. on_means _ _ _ _ c.answer_by_subject.ensures.means (λ m. m.sets.registers is)

pub returns-clause-shows_register : goal.returns-clause-shows_register
returns-clause-shows_register g c = λ is. on_means _ _ _ _ c.answer_by_subject.ensures.means (λ m. m.shows.register is)

pub returns-clause-sets_register : goal.returns-clause-sets_register
returns-clause-sets_register g c = λ is. on_means _ _ _ _ c.answer_by_subject.ensures.means (λ m. m.sets.register is)

pub returns-clause-shows_memory : goal.returns-clause-shows_memory
returns-clause-shows_memory g c = λ is. on_means _ _ _ _ c.answer_by_subject.ensures.means (λ m. m.shows.memory is)

pub returns-clause-sets_memory : goal.returns-clause-sets_memory
returns-clause-sets_memory g c = λ is. on_means _ _ _ _ c.answer_by_subject.ensures.means (λ m. m.sets.memory is)

pub returns-clause-sets_bytes : goal.returns-clause-sets_bytes
returns-clause-sets_bytes g c = λ is. on_means _ _ _ _ c.answer_by_subject.ensures.means (λ m. m.sets.bytes is)

pub returns-clause-sets_break : goal.returns-clause-sets_break
returns-clause-sets_break g c = λ is. on_means _ _ _ _ c.answer_by_subject.ensures.means (λ m. m.asks.sets_break is)

pub returns-clause-removes_break : goal.returns-clause-removes_break
returns-clause-removes_break g c = λ is. on_means _ _ _ _ c.answer_by_subject.ensures.means (λ m. m.asks.removes_break is)

pub returns-clause-no_values : goal.returns-clause-no_values
returns-clause-no_values g c = λ is. on_means _ _ _ _ c.answer_by_subject.ensures.means (λ m. m.sets.no_values is)

pub returns-clause-forgets : goal.returns-clause-forgets
returns-clause-forgets g c = λ is. on_means _ _ _ _ c.answer_by_subject.ensures.means (λ m. m.forgets is)

pub returns-clause-acts : goal.returns-clause-acts
returns-clause-acts g c = λ actions is. on_means _ _ _ _ c.answer_by_subject.ensures.means (λ m. m.acts.acts actions is)

pub returns-clause-error : goal.returns-clause-error
returns-clause-error g c = λ other. on_means _ _ _ _ c.answer_by_subject.ensures.means (λ m error.
    let stays = m.error other error in
    (stays.state_kept, stays.environment_kept, stays.session_kept))

pub returns-clause-reply : goal.returns-clause-reply
returns-clause-reply g c = c.answer_by_subject.ensures.reply

pub returns-clause-stopped : goal.returns-clause-stopped
returns-clause-stopped g c = λ is. on_means _ _ _ _ c.answer_by_subject.ensures.means (λ m. m.asks.stopped is)

pub returns-clause-monitors : goal.returns-clause-monitors
returns-clause-monitors g c = λ digits command is decoded.
    on_means _ _ _ _ c.answer_by_subject.ensures.means (λ m. m.asks.monitors digits command is decoded)

pub returns-clause-questions : goal.returns-clause-questions
returns-clause-questions g c = λ is other.
    on_means _ _ _ _ c.answer_by_subject.ensures.means (λ m. m.asks.questions is other)

pub returns-clause-ends : goal.returns-clause-ends
returns-clause-ends g c = c.answer_by_subject.ensures.ends

pub returns-clause-back_told : goal.returns-clause-back_told
returns-clause-back_told g c = λ is. on_means _ _ _ _ c.answer_by_subject.ensures.means (λ m. m.returns.told is)
