use Rattle.std.proofs.Common.{◌-◌, ◌≤◌}
use Rattle.rrs_exec.specs.Protection.{IsMarkedBy}
use Rattle.rrs_exec.proofs.marks.marks_of.Given as goal

abbrev pub invariant-stretches : goal.invariant-stretches
invariant-stretches l = record {
  marked : IsMarkedBy l.ranges l.page l.marks.items;
  within : l.page ≤ l.pages;
}

abbrev pub decreases-stretches : goal.decreases-stretches
decreases-stretches l = l.pages - l.page
