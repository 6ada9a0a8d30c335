-- Some text was written.
use Rattle.rrs_reports.specs.Profiles.{WritesSome}
use Rattle.rrs_reports.proofs.callgrind.write_calls.Given as goal

abbrev pub invariant-loop : goal.invariant-loop
invariant-loop g l = WritesSome g.W.Write.contents l.initial.out l.out
