use Rattle.std.proofs.Common.{◌≡◌, ℕ, ◌≤◌, ◌-◌, List, ◌++◌}
use Rattle.rrs_board_gdb.specs.Going.{debugged, PassingSteps}
use Rattle.rrs_board_gdb.proofs.going.DebuggedBoard.go.Given as goal

-- none of the steps so far leads to an end
abbrev pub invariant-steps : goal.invariant-steps
invariant-steps l = record {
  within : l.steps ≤ l.fn.limit;
  made : (printed : List ℕ) × (l.self.output.items ≡ l.fn.self.output.items ++ printed)
      × PassingSteps l.stops l.steps (debugged l.fn.self) printed (debugged l.self);
}

abbrev pub decreases-steps : goal.decreases-steps
decreases-steps l = l.fn.limit - l.steps
