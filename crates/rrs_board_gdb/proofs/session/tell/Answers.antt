use Rattle.std.proofs.Common.{◌≡◌, rules}
use Rattle.rrs_gdb.specs.Sessions.{letter}
use Rattle.rrs_gdb.proofs.EntryLemmas.{kept_on_error}
use Rattle.rrs_gdb.proofs.SessionLemmas.{rest_whole}
use Rattle.rrs_board_gdb.proofs.AnswerLemmas.{asks_removed, asks_set, tells_plain}
use Rattle.rrs_board_gdb.proofs.session.tell.Goals as goal

pub returns-in-90-clause-asks : goal.returns-in-90-clause-asks
returns-in-90-clause-asks c =
    let at : letter c.args.payload.now ≡ 90 = search rules in
    asks_set c.push_text-in-90.result c.args.payload.now _ _ _ _ _ c.set_stop.result.now at
    (rest_whole c.args.payload.now) c.push_text-in-90.ensures c.set_stop.ensures

pub returns-in-90-clause-error : goal.returns-in-90-clause-error
returns-in-90-clause-error c =
    kept_on_error c.push_text-in-90.result _ _ _ c.set_stop.result.now c.push_text-in-90.ensures c.set_stop.ensures.kept

pub returns-in-122-clause-asks : goal.returns-in-122-clause-asks
returns-in-122-clause-asks c =
    let at : letter c.args.payload.now ≡ 122 = search rules in
    asks_removed c.push_text.result c.args.payload.now _ _ _ _ _ c.remove_stop.result.now at
    (rest_whole c.args.payload.now) c.push_text.ensures c.remove_stop.ensures

pub returns-in-122-clause-error : goal.returns-in-122-clause-error
returns-in-122-clause-error c =
    kept_on_error c.push_text.result _ _ _ c.remove_stop.result.now c.push_text.ensures c.remove_stop.ensures.kept

pub returns-in_default-clause-tells : goal.returns-in_default-clause-tells
returns-in_default-clause-tells c =
    tells_plain c.push_text-in_default.result _ c.plain_answer.result.now _ _ c.if-is_question.ensures.no c.plain_answer.ensures.offers
    c.plain_answer.ensures.takes c.push_text-in_default.ensures
