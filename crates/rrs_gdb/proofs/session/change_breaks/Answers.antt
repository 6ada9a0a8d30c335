use Rattle.rrs_gdb.proofs.EntryLemmas.{kept_on_error, removes_told, sets_told}
use Rattle.rrs_gdb.proofs.SessionLemmas.{rest_whole}
use Rattle.rrs_gdb.proofs.session.change_breaks.Goals as goal

pub returns-in-90-clause-error : goal.returns-in-90-clause-error
returns-in-90-clause-error c = kept_on_error c.push_text.result _ _ _ c.set_break.result.now c.push_text.ensures (λ error.
    record { stops_kept = c.set_break.ensures.stops error; watches_kept = c.set_break.ensures.watches error })

pub returns-in-90-clause-sets : goal.returns-in-90-clause-sets
returns-in-90-clause-sets c = λ _.
    sets_told c.push_text.result _ _ _ _ _ _ _ (rest_whole c.args.payload.now) c.push_text.ensures c.set_break.ensures.sets

pub returns-in-122-clause-error : goal.returns-in-122-clause-error
returns-in-122-clause-error c = kept_on_error c.push_text-in-122.result _ _ _ c.remove_break.result.now
    c.push_text-in-122.ensures (λ error.
    record { stops_kept = c.remove_break.ensures.stops error; watches_kept = c.remove_break.ensures.watches error })

pub returns-in-122-clause-removes : goal.returns-in-122-clause-removes
returns-in-122-clause-removes c = λ _.
    removes_told c.push_text-in-122.result _ _ _ _ _ _ _ (rest_whole c.args.payload.now) c.push_text-in-122.ensures
    c.remove_break.ensures.removes
