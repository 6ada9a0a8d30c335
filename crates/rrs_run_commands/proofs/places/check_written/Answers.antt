use Rattle.std.proofs.lemmas.Result.{on_ok_weaker}
use Rattle.rrs_run_commands.proofs.WrittenLemmas.{written_apart}
use Rattle.rrs_run_commands.proofs.places.check_written.Goals as goal

pub returns-clause-apart : goal.returns-clause-apart
returns-clause-apart g c =
    on_ok_weaker c.check_apart.result
    (written_apart _ c.in_ok-named_files.field-0 c.in_ok-named_files.ensures.named)
    c.check_apart.ensures.apart
