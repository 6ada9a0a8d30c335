use Rattle.std.proofs.Common.{length}
use Rattle.rrs_asm.proofs.sections.+are_behind.Given as goal

-- the sections that are left
abbrev pub decreases-are_behind : goal.decreases-are_behind
decreases-are_behind g l = length l.others.now
