use Rattle.std.proofs.Common.{refl, inl}
use Rattle.rrs_gdb.specs.Sessions.{one_step}
use Rattle.rrs_gdb.proofs.AnswerLemmas.{always, no_such}
use Rattle.rrs_gdb.proofs.SessionLemmas.{some_limit}
use Rattle.rrs_gdb.proofs.session.go_on.Goals as goal

pub returns-in-Some-default-empty-clause-goes_on : goal.returns-in-Some-default-empty-clause-goes_on
returns-in-Some-default-empty-clause-goes_on g c = some_limit c.go.result _ _ _ _ _ _ _ _ c.go.ensures.goes_on

pub returns-in-Some-default-empty-clause-places : goal.returns-in-Some-default-empty-clause-places
returns-in-Some-default-empty-clause-places g c = c.go.ensures.places

pub returns-in-Some-default-empty-clause-error : goal.returns-in-Some-default-empty-clause-error
returns-in-Some-default-empty-clause-error g c = no_such c.go.result _ _ c.go.ensures.error

pub returns-in_default-clause-goes_on : goal.returns-in_default-clause-goes_on
returns-in_default-clause-goes_on g c = always _ c.refuse.result (one_step, inl (refl, refl))
