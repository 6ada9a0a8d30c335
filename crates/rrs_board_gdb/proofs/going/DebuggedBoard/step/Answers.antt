use Rattle.rrs_board_gdb.specs.Going.{debugged}
use Rattle.rrs_board_gdb.proofs.GoingLemmas.{served_step}
use Rattle.rrs_board_gdb.proofs.going.DebuggedBoard.step.Goals as goal

pub returns-clause-step : goal.returns-clause-step
returns-clause-step c =
    served_step (debugged c.args.self.now) (debugged c.serve.new.self) c.step-event.new.self
    c.step-event.result.answer c.step-event.result.event c.serve.result c.step-event.ensures.step
    c.serve.ensures.board
