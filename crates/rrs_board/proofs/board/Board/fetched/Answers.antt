use Rattle.rrs_board.specs.Registers.{board_bytes}
use Rattle.rrs_board.proofs.ReadsKeep.{fetch_keeps}
use Rattle.rrs_board.proofs.board.Board.fetched.Goals as goal

pub returns-clause-kept : goal.returns-clause-kept
returns-clause-kept c =
    let old = c.args.self.now in
    let read = c.fetch_in-fetched in
    let ram = fetch_keeps old.csrs.profile.hart (board_bytes old.memory) old.hart.pc old.memory read.new.mem read.ensures.makes in
    λ k. record old { memory = record old.memory { ram = ram k } }
