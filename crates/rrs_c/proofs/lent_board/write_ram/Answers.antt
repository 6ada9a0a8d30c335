-- The write is one of the words, which stay lent.
use Rattle.std.proofs.Common.{rules, refl}
use Rattle.rrs_c.proofs.LentBoards.{words_written}
use Rattle.rrs_c.proofs.lent_board.write_ram.Goals as goal

pub returns-clause-did : goal.returns-clause-did
returns-clause-did c =
    let wrote = c.write_mem in
    let lent = wrote.ensures.did.lent in
    words_written _ wrote.new.self c.args.addr c.args.size c.args.value wrote.result _ (search rules) refl wrote.ensures.did
