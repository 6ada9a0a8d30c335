use Rattle.std.proofs.Common.{◌≡◌, drop}
use Rattle.rrs_exec.specs.Protection.{marked_from, mark_of}
use Rattle.rrs_exec.proofs.marks.mark_of.Given as goal

abbrev pub invariant-loop-range : goal.invariant-loop-range
invariant-loop-range l = marked_from l.mark (drop l.range-index l.ranges) l.page ≡ mark_of l.ranges l.page
