use Rattle.std.proofs.Common.{◌≡◌, ℕ, ◌≤◌, ◌-◌, List, [], ◌++◌}
use Rattle.rrs_gdb.specs.Shown.{Prints}
use Rattle.rrs_board_gdb.specs.Going.{debugged, PassingSteps}
use Rattle.rrs_board_gdb.proofs.going.DebuggedBoard.proceed.Given as goal

-- none of the steps so far leads to an end, and what they print is sent
abbrev pub invariant-legs : goal.invariant-legs
invariant-legs g l = record {
  within : l.steps ≤ l.fn.limit;
  emptied : l.self.output.items ≡ [];
  acknowledges : l.link.acknowledges ≡ l.fn.link.acknowledges;
  made : (printed : List ℕ)
      × PassingSteps l.stops l.steps (debugged l.fn.self) printed (debugged l.self)
      × Prints g.W.Write.contents l.fn.link l.link (l.fn.self.output.items ++ printed);
}

abbrev pub decreases-legs : goal.decreases-legs
decreases-legs g l = l.fn.limit - l.steps
