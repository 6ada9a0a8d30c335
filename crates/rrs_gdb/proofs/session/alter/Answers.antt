-- Nothing is told of the history, but where the machine is changed.
use Rattle.std.proofs.Common.{refl, inl, inr}
use Rattle.std.proofs.lemmas.Bool.{OnTrue_at, OnFalse_at}
use Rattle.rrs_gdb.proofs.ChangeLemmas.{error_of, sets_behind}
use Rattle.rrs_gdb.proofs.session.alter.Goals as goal

pub returns-then-not-is_changed-clause-sets : goal.returns-then-not-is_changed-clause-sets
returns-then-not-is_changed-clause-sets g c =
    sets_behind _ _ _ _ _ _ c.in_ok-push_text.ensures c.in_ok-is_changed.ensures.sets

pub returns-then-not-is_changed-clause-error : goal.returns-then-not-is_changed-clause-error
returns-then-not-is_changed-clause-error g c = λ error. (
  OnFalse_at c.if-not-is_changed.true c.in_ok-is_changed.ensures.done.none,
  record { stops_kept = refl; watches_kept = refl; settings_kept = refl; history_kept = refl; reserved_kept = refl },
)

pub returns-clause-places : goal.returns-clause-places
returns-clause-places g c = c.forget.ensures.kept

pub returns-clause-sets : goal.returns-clause-sets
returns-clause-sets g c = sets_behind _ _ _ _ _ _ c.in_ok-push_text.ensures c.in_ok-is_changed.ensures.sets

pub returns-then-not-is_changed-clause-forgets : goal.returns-then-not-is_changed-clause-forgets
returns-then-not-is_changed-clause-forgets g c = inr (
  OnFalse_at c.if-not-is_changed.true c.in_ok-is_changed.ensures.done.none,
  record { stops_kept = refl; watches_kept = refl; settings_kept = refl; history_kept = refl; reserved_kept = refl },
)

pub returns-clause-forgets : goal.returns-clause-forgets
returns-clause-forgets g c =
    inl c.forget.ensures.emptied

pub returns-clause-error : goal.returns-clause-error
returns-clause-error g c = λ error.
    absurd (OnTrue_at c.if-not-is_changed.false c.in_ok-is_changed.ensures.done.no_error
    (error_of _ _ _ c.in_ok-push_text.ensures error))
