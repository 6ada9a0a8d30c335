-- A fetch makes reads alone, after which the words are as they were, and lent as before.
use Rattle.rrs_c.specs.LentBoards.{memory_bytes}
use Rattle.rrs_c.proofs.LentBoards.{made_lent, fetch_keeps}
use Rattle.rrs_c.proofs.lent_board.fetched.Goals as goal

pub returns-clause-words : goal.returns-clause-words
returns-clause-words c =
    let old = c.args.mem.now in
    let hart = c.args.hart.now in
    fetch_keeps hart.csrs.profile.hart (memory_bytes old) hart.state.pc old c.fetch_in-fetched.new.mem c.fetch_in-fetched.ensures.makes

pub returns-clause-same_words : goal.returns-clause-same_words
returns-clause-same_words c = made_lent _ c.args.mem.now c.fetch_in-fetched.new.mem c.fetch_in-fetched.ensures.makes
