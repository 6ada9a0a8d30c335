use Rattle.std.proofs.Common.{Some, None, refl, sym, subst, ap, ◌∙◌}
use Rattle.rrs_fast.specs.declared.serving.Ending.TheVariants.{Limit, Fault}
use Rattle.rrs_fast.specs.Serving.{EndsBy}
use Rattle.rrs_fast.proofs.Rounds.{last_round, call_round, exit_round, ends_by_fault, run_within}
use Rattle.rrs_fast.proofs.serving.serve_next.Goals as goal

pub returns-in_default-clause-round : goal.returns-in_default-clause-round
returns-in_default-clause-round g c =
    let ends : EndsBy c.run-end.result.exception Limit = subst (λ x. EndsBy x Limit) (sym c.in_default.is) refl in
    let run = c.run-end.ensures in
    last_round _ _ _ _ _ _ _ _ _ c.run-end.result.exception Limit _ _ run.run run.accesses ends

pub returns-in-Some-serve-clause-round : goal.returns-in-Some-serve-clause-round
returns-in-Some-serve-clause-round g c =
    let run = c.run-end.ensures in
    exit_round _ _ _ _ _ _ _ _ _ _ _ _ _ (call_round _ _ _ _ _ _ _ _ _ _ _ _ c.in-EnvironmentCall.pc
    c.run-end.result.exception c.serve.result (Some c.in-Some-serve.status) _ _ _ run.run run.accesses
    (c.in-Some.is ∙ ap Some c.in-EnvironmentCall.is) c.serve.ensures.served c.in-Some-serve.is refl)

pub returns-in-None-clause-round : goal.returns-in-None-clause-round
returns-in-None-clause-round g c =
    let run = c.run-end.ensures in
    call_round _ _ _ _ _ _ _ _ _ _ _ _ c.in-EnvironmentCall.pc c.run-end.result.exception c.serve.result None _ _ _
    run.run run.accesses (c.in-Some.is ∙ ap Some c.in-EnvironmentCall.is) c.serve.ensures.served c.in-None.is refl

pub returns-in_default-exception : goal.returns-in_default-exception
returns-in_default-exception g c =
    let run = c.run-end.ensures in
    let x = c.in-Some.exception in
    let ends : EndsBy c.run-end.result.exception (Fault x) =
    subst (λ y. EndsBy y (Fault x)) (sym c.in-Some.is) (ends_by_fault x c.in_default-exception.not-EnvironmentCall) in
    record {
      round = last_round _ _ _ _ _ _ _ _ _ c.run-end.result.exception (Fault x) _ _ run.run run.accesses ends;
      same_profile = run.same_profile;
      within = run_within _ _ _ _ _ c.run-end.result.exception run.run;
      rest = run.rest;
      ends = run.ends;
    }
