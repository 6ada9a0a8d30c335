-- What is told is that of an access by bytes, or what was seen.
use Rattle.std.proofs.Common.{IfOk, subst}
use Rattle.rrs_trace.specs.HartRecords.{Tells}
use Rattle.rrs_trace.proofs.HartAccesses.{seen_alone, told_of_bytes, access_fault}
use Rattle.rrs_trace.proofs.hart_retired.access_of.Goals as goal

pub returns-in-None-clause-access : goal.returns-in-None-clause-access
returns-in-None-clause-access c = λ p s x there tells sees.
    seen_alone p s c.args.seen c.in-Ok.bytes c.in-None.is (subst (λ y. IfOk y (Tells p s.state)) c.in-Ok.is tells) sees

pub returns-in-Some-clause-access : goal.returns-in-Some-clause-access
returns-in-Some-clause-access c = λ p s x there tells sees.
    told_of_bytes p s _ c.in-Ok.bytes c.in-Some.access x there c.in-Some.is (subst (λ y. IfOk y (Tells p s.state)) c.in-Ok.is tells) c.whole.ensures

pub returns-in-Err-clause-access : goal.returns-in-Err-clause-access
returns-in-Err-clause-access c = λ p s x there tells sees. access_fault p s _ _ c.none.ensures
