use Rattle.rrs_board_gdb.proofs.SessionLemmas.{no_error}
use Rattle.rrs_board_gdb.proofs.session.go_on.Goals as goal

pub returns-clause-error : goal.returns-clause-error
returns-clause-error g c = λ error.
    absurd (no_error c.go.new.session.stop c.args.reply.now.items c.push_stop.new.reply.items
    c.in_ok-push_stop.ensures error)
