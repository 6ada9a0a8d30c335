use Rattle.std.proofs.Common.{Result, map, string_bytes, length}
use Rattle.rrs_run_commands.specs.Requests.{AsksFor, Fault, Wanted, reading_of, unread}
use Rattle.rrs_run_commands.proofs.requests.request_of.Given as goal

-- what the words that are left ask for, all of them ask for
abbrev pub invariant-loop-word : goal.invariant-loop-word
invariant-loop-word l = (asked : Result Wanted Fault) →
    AsksFor l.fn.task (reading_of l.reading.has_ended l.reading.request) (map string_bytes l.rest) asked
    → AsksFor l.fn.task (unread l.fn.task) (map string_bytes l.fn.words) asked

abbrev pub decreases-loop-word : goal.decreases-loop-word
decreases-loop-word l = length l.rest
