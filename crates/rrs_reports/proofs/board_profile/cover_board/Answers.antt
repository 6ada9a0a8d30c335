-- The records that the profile was shown are those of the session.
use Rattle.std.proofs.Common.{[], ◌∷◌, map, refl, sym, subst}
use Rattle.std.proofs.lemmas.List.{map-append}
use Rattle.rrs_trace.specs.declared.retired.Retired.{Retired}
use Rattle.rrs_board.specs.declared.runs.RecordedStep.{RecordedStep}
use Rattle.rrs_reports.specs.Coverages.{Counts, Covers}
use Rattle.rrs_reports.proofs.BoardSessions.{ended_kept}
use Rattle.rrs_reports.proofs.Covering.{covers_none, covers_more}
use Rattle.rrs_reports.proofs.board_profile.cover_board.Goals as goal

pub returns-in-Ok-run_at_terminal : goal.returns-in-Ok-run_at_terminal
returns-in-Ok-run_at_terminal g c =
    let new = c.in-Ok.ensures in
    let of : RecordedStep → Retired = λ step. step.retired.retired in
    let k = ended_kept (λ old step v. Counts old.coverage (of step) v.coverage) _
    (λ rs p. Covers (map of rs) p.coverage)
    (λ rs r v w before now. subst (λ all. Covers all w.coverage) (sym (map-append of rs (r ∷ [])))
    (covers_more (map of rs) (of r) v.coverage w.coverage before now))
    g.I.BoardInput.says g.I.BoardInput.remaining _ _ _ _ _ _ _ _ _ _ _ _ c.in-Ok-run_at_terminal.ensures.session refl refl (covers_none _ new.0 new.1 new.2) in
    record {
      covered = record { records = k.0; runs = k.1; covers = k.2 };
      polled = c.in-Ok-run_at_terminal.ensures.polled;
      untouched = tt;
    }
