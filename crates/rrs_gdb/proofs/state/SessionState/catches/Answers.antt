use Rattle.std.proofs.Common.{inr}
use Rattle.std.proofs.lemmas.Bool.{OnTrue_at, OnTrue_from, OnFalse_at, OnFalse_from}
use Rattle.rrs_gdb.specs.Sessions.{IsCaught, asked_by}
use Rattle.rrs_gdb.proofs.SessionLemmas.{no_other}
use Rattle.rrs_gdb.proofs.state.SessionState.catches.Goals as goal

pub returns-clause-yes : goal.returns-clause-yes
returns-clause-yes c =
    OnTrue_from _ _ (λ holds. inr (OnTrue_at holds (rw c.deref.ensures.value at c.is_stop.ensures.yes)))

pub returns-clause-no : goal.returns-clause-no
returns-clause-no c =
    OnFalse_from _ (¬ IsCaught (asked_by c.args.self.now) c.args.number) (λ fails caught.
    no_other _ _ c.if-self.false (OnFalse_at fails (rw c.deref.ensures.value at c.is_stop.ensures.no)) caught)
