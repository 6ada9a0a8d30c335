use Rattle.std.proofs.Common.{map, string_bytes, ap, rules}
use Rattle.std.proofs.lemmas.List.{nil_from_length}
use Rattle.std.proofs.lemmas.Result.{err_from_is_err_and}
use Rattle.rrs_run_commands.proofs.WordLemmas.{first_bytes, asks-taken, asks-wrong, asks-program, asks-whole, asks-lacking}
use Rattle.rrs_run_commands.proofs.requests.request_of.Goals as goal

pub returns-then-is_program-clause-request : goal.returns-then-is_program-clause-request
returns-then-is_program-clause-request c =
    c.loop-word.invariant _ (asks-program _ _ _ _ _ (first_bytes _ _ _ _ c.in-Some.ensures.cases c.as_str-word.ensures.value) (search rules))

pub returns-in_err-read-clause-refused : goal.returns-in_err-read-clause-refused
returns-in_err-read-clause-refused c =
    let p = err_from_is_err_and c.from_residual.result c.from_residual.ensures.1 in
    rw (p.1, p.2) (c.loop-word.invariant _ (asks-wrong _ _ _ _ _ _ (first_bytes _ _ _ _ c.in-Some.ensures.cases c.as_str-word.ensures.value)
    (search rules) c.in_err-read.ensures.refused))

pub loop-word-preserved : goal.loop-word-preserved
loop-word-preserved c = λ asked asks.
    c.loop-word.invariant _ (asks-taken _ _ _ _ _ _ _ _ (first_bytes _ _ _ _ c.in-Some.ensures.cases c.as_str-word.ensures.value)
    (search rules) c.in_ok-read.ensures.taken asks)

pub returns-then-is_whole-clause-request : goal.returns-then-is_whole-clause-request
returns-then-is_whole-clause-request c =
    c.loop-word.invariant _ (asks-whole _ _ _ (ap (map string_bytes) (nil_from_length _ c.in_default.ensures.cases)) (search rules))

pub returns-else-is_whole-clause-refused : goal.returns-else-is_whole-clause-refused
returns-else-is_whole-clause-refused c =
    c.loop-word.invariant _ (asks-lacking _ _ _ (ap (map string_bytes) (nil_from_length _ c.in_default.ensures.cases)) (search rules))
