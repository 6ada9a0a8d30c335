-- Some text was written.
use Rattle.rrs_reports.specs.Profiles.{WritesSome}
use Rattle.rrs_reports.proofs.callgrind.write_all_costs.Given as goal

abbrev pub invariant-loop-index : goal.invariant-loop-index
invariant-loop-index g l = WritesSome g.W.Write.contents l.initial.out l.out
