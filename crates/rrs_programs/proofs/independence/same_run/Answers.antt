-- The second run is one from the first state, from where there is only one.
use Rattle.std.proofs.Common.{ap}
use Rattle.rrs_lib.specs.Machine.{State}
use Rattle.rrs_extra.proofs.Agreeing.{RunsUntil-agree, same_end}
use Rattle.rrs_programs.proofs.independence.same_run.Goals as goal

pub returns-clause-same_end : goal.returns-clause-same_end
returns-clause-same_end g c =
    let alike = RunsUntil-agree _ _ _ _ _ _ _ _ _ c.requires c.run-first_end.ensures.run c.run-first_end.ensures.only
    c.run-second_end.ensures.run in same_end _ _ alike.0 alike.1

pub returns-clause-agree_after : goal.returns-clause-agree_after
returns-clause-agree_after g c =
    (RunsUntil-agree _ _ _ _ _ _ _ _ _ c.requires c.run-first_end.ensures.run c.run-first_end.ensures.only
    c.run-second_end.ensures.run).2.agree

pub returns-clause-same_last : goal.returns-clause-same_last
returns-clause-same_last g c = λ some.
    ap (λ (s : State). s.last) ((RunsUntil-agree c.args.limit _ _ _ _ _ _ _ _ c.requires c.run-first_end.ensures.run
    c.run-first_end.ensures.only c.run-second_end.ensures.run).2.same some)
