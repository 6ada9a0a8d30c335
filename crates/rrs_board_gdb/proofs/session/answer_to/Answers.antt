-- Each clause is a part of what is said of the answer by its subject.
use Rattle.rrs_board_gdb.proofs.AnswerLemmas.{on_means}
use Rattle.rrs_board_gdb.proofs.session.answer_to.Goals as goal

pub returns-clause-asks : goal.returns-clause-asks
returns-clause-asks g c = c.answer_by_subject.ensures.leaves.asks

pub returns-clause-memory : goal.returns-clause-memory
returns-clause-memory g c = c.answer_by_subject.ensures.leaves.memory

pub returns-clause-stays : goal.returns-clause-stays
returns-clause-stays g c = c.answer_by_subject.ensures.leaves.stays

pub returns-clause-input : goal.returns-clause-input
returns-clause-input g c = c.answer_by_subject.ensures.leaves.input

pub returns-clause-stop : goal.returns-clause-stop
returns-clause-stop g c = c.answer_by_subject.ensures.leaves.stop

pub returns-clause-limit : goal.returns-clause-limit
returns-clause-limit g c = c.answer_by_subject.ensures.leaves.limit

pub returns-clause-breaks : goal.returns-clause-breaks
returns-clause-breaks g c = c.answer_by_subject.ensures.leaves.breaks

pub returns-clause-shows_register : goal.returns-clause-shows_register
returns-clause-shows_register g c = λ is. on_means _ _ _ _ _ _ c.answer_by_subject.ensures.means (λ m. m.inspects.shows_register is)

pub returns-clause-sets_register : goal.returns-clause-sets_register
returns-clause-sets_register g c = λ is. on_means _ _ _ _ _ _ c.answer_by_subject.ensures.means (λ m. m.inspects.sets_register is)

pub returns-clause-shows_memory : goal.returns-clause-shows_memory
returns-clause-shows_memory g c = λ is. on_means _ _ _ _ _ _ c.answer_by_subject.ensures.means (λ m. m.inspects.shows_memory is)

pub returns-clause-sets_memory : goal.returns-clause-sets_memory
returns-clause-sets_memory g c = λ is. on_means _ _ _ _ _ _ c.answer_by_subject.ensures.means (λ m. m.inspects.sets_memory is)

pub returns-clause-goes : goal.returns-clause-goes
returns-clause-goes g c = λ is. on_means _ _ _ _ _ _ c.answer_by_subject.ensures.means (λ m. m.goes is)

pub returns-clause-resumes : goal.returns-clause-resumes
returns-clause-resumes g c = λ actions is.
    on_means _ _ _ _ _ _ c.answer_by_subject.ensures.means (λ m. m.resumes actions is)

pub returns-clause-error : goal.returns-clause-error
returns-clause-error g c = on_means _ _ _ _ _ _ c.answer_by_subject.ensures.means (λ m. m.error)

pub returns-clause-sets_stop : goal.returns-clause-sets_stop
returns-clause-sets_stop g c = λ is. on_means _ _ _ _ _ _ c.answer_by_subject.ensures.means (λ m. m.asks.sets_stop is)

pub returns-clause-removes_stop : goal.returns-clause-removes_stop
returns-clause-removes_stop g c = λ is.
    on_means _ _ _ _ _ _ c.answer_by_subject.ensures.means (λ m. m.asks.removes_stop is)

pub returns-clause-stopped : goal.returns-clause-stopped
returns-clause-stopped g c = λ is. on_means _ _ _ _ _ _ c.answer_by_subject.ensures.means (λ m. m.asks.stopped is)

pub returns-clause-ends : goal.returns-clause-ends
returns-clause-ends g c = c.answer_by_subject.ensures.ends
