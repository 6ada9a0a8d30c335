-- What is said of an answer, by the subject of the packet.
use Rattle.std.proofs.Common.{refl}
use Rattle.rrs_gdb.proofs.AnswerLemmas.{behind_answer, ends_back, ends_breaks, ends_changed, ends_named, ends_query, ends_run, ends_shown, leaves_all, leaves_back, leaves_breaks, leaves_changed, leaves_named, leaves_query, leaves_run, means_back_ok, means_breaks_ok, means_changed_ok, means_named_ok, means_query_ok, means_run_ok, means_session, means_shown_ok}
use Rattle.rrs_gdb.proofs.session.answer_by_subject.Goals as goal

pub returns-in-Shown-clause-leaves : goal.returns-in-Shown-clause-leaves
returns-in-Shown-clause-leaves g c =
    leaves_all _ _ _ c.show.ensures.kept refl
    (record { stops_kept = refl; watches_kept = refl; settings_kept = refl; history_kept = refl; reserved_kept = refl })

pub returns-in-Shown-clause-means : goal.returns-in-Shown-clause-means
returns-in-Shown-clause-means g c =
    behind_answer _ c.reply_behind.result c.show.result c.reply_behind.ensures.whole
    (means_shown_ok c.show.result _ _ _ c.in-Shown.ensures c.show.ensures.kept refl
    (record { stops_kept = refl; watches_kept = refl; settings_kept = refl; history_kept = refl; reserved_kept = refl }) c.show.ensures.shown)

pub returns-in-Changed-clause-leaves : goal.returns-in-Changed-clause-leaves
returns-in-Changed-clause-leaves g c =
    leaves_changed _ _ _ c.in-Changed.ensures c.alter.ensures.places refl c.alter.ensures.registers c.alter.ensures.memory

pub returns-in-Changed-clause-means : goal.returns-in-Changed-clause-means
returns-in-Changed-clause-means g c =
    behind_answer _ c.reply_behind-in-Changed.result c.alter.result c.reply_behind-in-Changed.ensures.whole
    (means_changed_ok c.alter.result _ _ _ c.in-Changed.ensures refl c.alter.ensures.sets
    c.alter.ensures.forgets c.alter.ensures.error)

pub returns-in-Run-clause-leaves : goal.returns-in-Run-clause-leaves
returns-in-Run-clause-leaves g c = leaves_run _ _ _ c.in-Run.ensures c.go_from.ensures.places

pub returns-in-Run-clause-means : goal.returns-in-Run-clause-means
returns-in-Run-clause-means g c =
    means_run_ok c.go_from.result _ _ _ c.in-Run.ensures c.go_from.ensures.goes c.go_from.ensures.error

pub returns-in-Named-clause-leaves : goal.returns-in-Named-clause-leaves
returns-in-Named-clause-leaves g c = leaves_named _ _ _ c.in-Named.ensures c.act.ensures.places

pub returns-in-Named-clause-means : goal.returns-in-Named-clause-means
returns-in-Named-clause-means g c =
    means_named_ok c.act.result _ _ _ c.in-Named.ensures c.act.ensures.goes_on c.act.ensures.acts c.act.ensures.error

pub returns-in-Back-clause-leaves : goal.returns-in-Back-clause-leaves
returns-in-Back-clause-leaves g c = leaves_back _ _ _ c.in-Back.ensures c.reverse.ensures.places

pub returns-in-Back-clause-means : goal.returns-in-Back-clause-means
returns-in-Back-clause-means g c =
    behind_answer _ c.reply_behind-in-Back.result c.reverse.result c.reply_behind-in-Back.ensures.whole
    (means_back_ok c.reverse.result _ _ _ c.in-Back.ensures
    c.reverse.ensures.step c.reverse.ensures.goes_back c.reverse.ensures.told c.reverse.ensures.error)

pub returns-in-Breaks-clause-leaves : goal.returns-in-Breaks-clause-leaves
returns-in-Breaks-clause-leaves g c =
    leaves_breaks _ _ _ c.in-Breaks.ensures refl refl c.change_breaks.ensures.settings

pub returns-in-Breaks-clause-means : goal.returns-in-Breaks-clause-means
returns-in-Breaks-clause-means g c =
    behind_answer _ c.reply_behind-in-Breaks.result c.change_breaks.result c.reply_behind-in-Breaks.ensures.whole
    (means_breaks_ok c.change_breaks.result _ _ _ c.in-Breaks.ensures refl refl c.change_breaks.ensures.settings
    c.change_breaks.ensures.error c.change_breaks.ensures.sets c.change_breaks.ensures.removes)

pub returns-in-Query-clause-leaves : goal.returns-in-Query-clause-leaves
returns-in-Query-clause-leaves g c = leaves_query _ _ _ c.in-Query.ensures refl refl c.query.ensures.breaks

pub returns-in-Query-clause-means : goal.returns-in-Query-clause-means
returns-in-Query-clause-means g c =
    behind_answer _ c.reply_behind-in-Query.result c.query.result c.reply_behind-in-Query.ensures.whole
    (means_query_ok c.query.result _ _ _ c.in-Query.ensures c.query.ensures.monitors c.query.ensures.kept)

pub returns-in_err-manage-in-Session-clause-leaves : goal.returns-in_err-manage-in-Session-clause-leaves
returns-in_err-manage-in-Session-clause-leaves g c = leaves_all _ _ _ refl refl c.manage.ensures.kept

pub returns-in_ok-manage-in-Session-clause-leaves : goal.returns-in_ok-manage-in-Session-clause-leaves
returns-in_ok-manage-in-Session-clause-leaves g c = leaves_all _ _ _ refl refl c.manage.ensures.kept

pub returns-in_ok-manage-in-Session-clause-means : goal.returns-in_ok-manage-in-Session-clause-means
returns-in_ok-manage-in-Session-clause-means g c =
    means_session _ _ _ c.in-Session.ensures refl refl c.manage.ensures.kept c.in_ok-manage-in-Session.ensures.stopped

pub returns-in-Shown-clause-reply : goal.returns-in-Shown-clause-reply
returns-in-Shown-clause-reply g c = λ _. c.reply_behind.ensures.reply

pub returns-in-Changed-clause-reply : goal.returns-in-Changed-clause-reply
returns-in-Changed-clause-reply g c = λ _. c.reply_behind-in-Changed.ensures.reply

pub returns-in-Run-clause-reply : goal.returns-in-Run-clause-reply
returns-in-Run-clause-reply g c = λ _. c.go_from.ensures.reply

pub returns-in-Named-clause-reply : goal.returns-in-Named-clause-reply
returns-in-Named-clause-reply g c = λ none. absurd (none.3 c.in-Named.ensures)

pub returns-in-Back-clause-reply : goal.returns-in-Back-clause-reply
returns-in-Back-clause-reply g c = λ _. c.reply_behind-in-Back.ensures.reply

pub returns-in-Breaks-clause-reply : goal.returns-in-Breaks-clause-reply
returns-in-Breaks-clause-reply g c = λ _. c.reply_behind-in-Breaks.ensures.reply

pub returns-in-Query-clause-reply : goal.returns-in-Query-clause-reply
returns-in-Query-clause-reply g c = λ _. c.reply_behind-in-Query.ensures.reply

pub returns-in_ok-manage-in-Session-clause-reply : goal.returns-in_ok-manage-in-Session-clause-reply
returns-in_ok-manage-in-Session-clause-reply g c = c.in_ok-manage-in-Session.ensures.reply

pub returns-in-Shown-clause-ends : goal.returns-in-Shown-clause-ends
returns-in-Shown-clause-ends g c = ends_shown c.reply_behind.result _ c.in-Shown.ensures

pub returns-in-Changed-clause-ends : goal.returns-in-Changed-clause-ends
returns-in-Changed-clause-ends g c = ends_changed c.reply_behind-in-Changed.result _ c.in-Changed.ensures

pub returns-in-Run-clause-ends : goal.returns-in-Run-clause-ends
returns-in-Run-clause-ends g c = ends_run c.go_from.result _ c.in-Run.ensures

pub returns-in-Named-clause-ends : goal.returns-in-Named-clause-ends
returns-in-Named-clause-ends g c = ends_named c.act.result _ c.in-Named.ensures

pub returns-in-Back-clause-ends : goal.returns-in-Back-clause-ends
returns-in-Back-clause-ends g c = ends_back c.reply_behind-in-Back.result _ c.in-Back.ensures

pub returns-in-Breaks-clause-ends : goal.returns-in-Breaks-clause-ends
returns-in-Breaks-clause-ends g c = ends_breaks c.reply_behind-in-Breaks.result _ c.in-Breaks.ensures

pub returns-in-Query-clause-ends : goal.returns-in-Query-clause-ends
returns-in-Query-clause-ends g c = ends_query c.reply_behind-in-Query.result _ c.in-Query.ensures

pub returns-in_ok-manage-in-Session-clause-ends : goal.returns-in_ok-manage-in-Session-clause-ends
returns-in_ok-manage-in-Session-clause-ends g c = c.in_ok-manage-in-Session.ensures.ends
