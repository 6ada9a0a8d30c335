use Rattle.rrs_board_gdb.proofs.SessionLemmas.{sets}
use Rattle.rrs_board_gdb.proofs.session.set.Goals as goal

pub returns-clause-set : goal.returns-clause-set
returns-clause-set c =
    let change = c.change-is_changed in
    sets c.push_done.result c.args.text.now c.args.board.now change.new.board c.args.reply.now.items
    c.push_done.new.reply.items change.result change.ensures.changed change.ensures.kept change.ensures.refused
    c.push_done.ensures.refused
