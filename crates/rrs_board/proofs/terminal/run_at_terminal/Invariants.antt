use Rattle.std.proofs.Common.{◌≡◌, ◌≤◌, ◌-◌, true, false}
use Rattle.std.specs.Io.KnownBytes.{IsAtEnd}
use Rattle.rrs_board.specs.Terminals.{Served}
use Rattle.rrs_board.proofs.terminal.run_at_terminal.Given as goal

-- the session so far, and that the input is at its end where that was seen, which one that is
-- polled never is
abbrev pub invariant-runs : goal.invariant-runs
invariant-runs g l = record {
  within : l.steps ≤ l.fn.limit;
  served : Served g.V.BoardRunner.runs g.I.BoardInput.says l.fn.is_polled l.fn.limit l.fn.board l.fn.runner l.fn.input
      g.I.BoardInput.remaining (g.W.Write.contents l.fn.output) (g.W.Write.contents l.output)
      l.steps l.asking l.board l.runner l.input;
  at_end : l.asking.has_ended ≡ true → IsAtEnd (g.I.BoardInput.remaining l.input);
  polled : l.fn.is_polled ≡ true → (l.asking.is_polled ≡ true) × (l.asking.has_ended ≡ false);
}

abbrev pub decreases-runs : goal.decreases-runs
decreases-runs g l = l.fn.limit - l.steps
