use Rattle.rrs_gdb.proofs.SessionLemmas.{no_signal, rest_whole}
use Rattle.rrs_gdb.proofs.session.going_of.Goals as goal

pub returns-in-67-clause-no_signal : goal.returns-in-67-clause-no_signal
returns-in-67-clause-no_signal c =
    no_signal c.signal_and_rest.result c.args.action.now _ (rest_whole c.args.action.now) c.signal_and_rest.ensures.none
