use Rattle.std.proofs.KnownBytes.{Appends-trans}
use Rattle.std.proofs.lemmas.Result.{on_ok_weaker}
use Rattle.rrs_cli.proofs.report.write_ending.Goals as goal

pub returns : goal.returns
returns g c = λ bytes writable.
    on_ok_weaker _ (Appends-trans _ _ _ _ _ c.in_ok-print_end.ensures) (c.print_hart.ensures bytes writable)
