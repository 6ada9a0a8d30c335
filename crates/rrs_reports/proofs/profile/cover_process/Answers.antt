-- The records that the profile was shown are those of the run.
use Rattle.std.proofs.Common.{refl}
use Rattle.rrs_reports.specs.Coverages.{Covers}
use Rattle.rrs_reports.proofs.Records.{run_kept}
use Rattle.rrs_reports.proofs.Covering.{covers_none, covers_more}
use Rattle.rrs_reports.proofs.profile.cover_process.Goals as goal

pub returns-clause-covered : goal.returns-clause-covered
returns-clause-covered g c =
    let new = c.in-Ok.ensures in
    let k = run_kept _ _ _ _ _ _ (λ rs p. Covers rs p.coverage)
    (λ rs r v w before now. covers_more rs r v.coverage w.coverage before now)
    _ _ _ _ _ _ _ _ _ _ _ _ c.in_ok-end.ensures.watched refl (covers_none _ new.0 new.1 new.2) in
    record { records = k.0; runs = k.1; covers = k.2 }
