-- What is said of an answer, by the subject of the packet.
use Rattle.std.proofs.Common.{refl}
use Rattle.rrs_board_gdb.proofs.AnswerLemmas.{ends_inspected, ends_named, ends_run, leaves_inspected, leaves_named, leaves_run, leaves_session, means_inspected, means_named_ok, means_run, tells_run, means_session}
use Rattle.rrs_board_gdb.proofs.session.answer_by_subject.Goals as goal

pub returns-in-Some-clause-leaves : goal.returns-in-Some-clause-leaves
returns-in-Some-clause-leaves g c =
    leaves_named _ _ _ _ c.in-Some.ensures.found c.resume.ensures.breaks c.resume.ensures.limit

pub returns-in-Some-clause-means : goal.returns-in-Some-clause-means
returns-in-Some-clause-means g c =
    means_named_ok c.resume.result _ _ _ _ _ _ c.in-Some.ensures.found c.resume.ensures.goes c.resume.ensures.error

pub returns-in-Run-clause-leaves : goal.returns-in-Run-clause-leaves
returns-in-Run-clause-leaves g c = leaves_run _ _ _ c.in-Run.ensures c.go_on.ensures.breaks c.go_on.ensures.limit

pub returns-in-Run-clause-means : goal.returns-in-Run-clause-means
returns-in-Run-clause-means g c =
    means_run c.go_on.result _ _ _ _ _ c.in-Run.ensures c.go_on.ensures.goes c.go_on.ensures.error

pub returns-in_err-inspect-in-Inspected-clause-leaves : goal.returns-in_err-inspect-in-Inspected-clause-leaves
returns-in_err-inspect-in-Inspected-clause-leaves g c =
    leaves_inspected _ _ _ c.in-Inspected.ensures c.inspect.ensures.asks c.inspect.ensures.memory refl refl refl refl

pub returns-in_ok-inspect-in-Inspected-clause-leaves : goal.returns-in_ok-inspect-in-Inspected-clause-leaves
returns-in_ok-inspect-in-Inspected-clause-leaves g c =
    leaves_inspected _ _ _ c.in-Inspected.ensures c.inspect.ensures.asks c.inspect.ensures.memory refl refl refl refl

pub returns-in_ok-inspect-in-Inspected-clause-means : goal.returns-in_ok-inspect-in-Inspected-clause-means
returns-in_ok-inspect-in-Inspected-clause-means g c =
    let said = c.in_ok-inspect-in-Inspected.ensures in
    means_inspected _ _ _ _ _ c.in-Inspected.ensures said.inspects said.error

pub returns-in_err-manage-in-Session-clause-leaves : goal.returns-in_err-manage-in-Session-clause-leaves
returns-in_err-manage-in-Session-clause-leaves g c =
    let said = c.manage.ensures in
    leaves_session _ _ _ said.board said.stop said.limit said.breaks

pub returns-in_ok-manage-in-Session-clause-leaves : goal.returns-in_ok-manage-in-Session-clause-leaves
returns-in_ok-manage-in-Session-clause-leaves g c =
    let said = c.manage.ensures in
    leaves_session _ _ _ said.board said.stop said.limit said.breaks

pub returns-in_ok-manage-in-Session-clause-means : goal.returns-in_ok-manage-in-Session-clause-means
returns-in_ok-manage-in-Session-clause-means g c =
    means_session _ _ _ _ _ c.in-Session.ensures c.manage.ensures.board c.in_default.ensures.found
    c.in_ok-manage-in-Session.ensures.asks

pub returns-in-Some-clause-ends : goal.returns-in-Some-clause-ends
returns-in-Some-clause-ends g c = ends_named c.resume.result _ _ c.in-Some.ensures.found c.resume.ensures.reply

pub returns-in-Run-clause-ends : goal.returns-in-Run-clause-ends
returns-in-Run-clause-ends g c = ends_run c.go_on.result _ c.in-Run.ensures c.go_on.ensures.reply

pub returns-in_ok-inspect-in-Inspected-clause-ends : goal.returns-in_ok-inspect-in-Inspected-clause-ends
returns-in_ok-inspect-in-Inspected-clause-ends g c = ends_inspected _ c.in-Inspected.ensures

pub returns-in-Run-clause-tells : goal.returns-in-Run-clause-tells
returns-in-Run-clause-tells g c = tells_run c.go_on.result _ _ _ c.in-Run.ensures
