-- The instruction is the one that is about to be executed, and the board stays.
use Rattle.std.proofs.Common.{sym, ap}
use Rattle.rrs_board.specs.declared.board.Board.{Board}
use Rattle.rrs_board.specs.Boards.{machine_with}
use Rattle.rrs_board.proofs.board.Board.told_from.Goals as goal

pub returns-in-None-clause-alive : goal.returns-in-None-clause-alive
returns-in-None-clause-alive c = λ none at vain.
    let b = c.args.self.now in
    c.dead_event.ensures.alive (machine_with b b.memory) (sym (ap (λ (x : Board). x.csrs) c.fetched-fetched.ensures.kept)) at
    (sym c.fetched-fetched.ensures.fetched) none vain
