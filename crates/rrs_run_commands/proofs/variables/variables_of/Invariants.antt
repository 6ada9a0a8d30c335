use Rattle.std.proofs.Common.{◌≡◌, ◌≤◌, ◌++◌, map, take, min, reverse, string_bytes}
use Rattle.rrs_run_commands.specs.Requests.{variables_in, wanted_of}
use Rattle.rrs_run_commands.proofs.variables.variables_of.Given as goal

-- what is copied, and those that are left from the last one back, are all of them
abbrev pub invariant-loop-left : goal.invariant-loop-left
invariant-loop-left l = record {
  below : l.left ≤ 16;
  copied : map string_bytes l.variables.items ++ reverse (map (λ word. word.now) (take l.left l.given))
      ≡ reverse (variables_in l.fn.request.variables);
}

abbrev pub decreases-loop-left : goal.decreases-loop-left
decreases-loop-left l = l.left
