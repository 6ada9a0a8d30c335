-- The run is that of the board over the words, which stay lent.
use Rattle.std.proofs.Common.{rules, refl}
use Rattle.rrs_c.specs.Boards.{event_in}
use Rattle.rrs_c.specs.LentBoards.{seen, seen_ram}
use Rattle.rrs_c.proofs.LentBoards.{ran_in_c}
use Rattle.rrs_c.proofs.rrs_board_run.Goals as goal

pub returns-clause-run : goal.returns-clause-run
returns-clause-run c =
    let ran = c.run_board-end in
    ran_in_c c.args.limit ran.result.steps c.board_end_of.result.steps ran.result.event (event_in c.board_end_of.result)
    _ _ (seen ran.new.hart ran.new.mem) c.close_board.new.board ran.new.mem.words.now _
    (c.hart_of_board-hart.ensures.same _ c.devices_of-devices.ensures) c.board_end_of.ensures.steps c.board_end_of.ensures.same (c.close_board.ensures.same (seen_ram ran.new.mem) refl) (search rules) ran.ensures.run
