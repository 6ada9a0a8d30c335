use Rattle.rrs_board.specs.WatchedBoards.{QuietlyShown}
use Rattle.rrs_board.proofs.runs.WatchedRunsBoardRunner.run.Given as goal

-- the steps so far
abbrev pub invariant-loop-steps : goal.invariant-loop-steps
invariant-loop-steps g l =
    QuietlyShown g.V.BoardWatcher.sees g.V.BoardWatcher.wants l.fn.made l.fn.self l.fn.board l.steps l.board l.self
