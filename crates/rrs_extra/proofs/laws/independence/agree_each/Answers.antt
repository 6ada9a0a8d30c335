-- The second run is one from the first state, from where there is only one.
use Rattle.std.proofs.Common.{ap, arith}
use Rattle.rrs_lib.specs.Machine.{State}
use Rattle.rrs_extra.proofs.Agreeing.{Runs-agree}
use Rattle.rrs_extra.proofs.laws.independence.agree_each.Goals as goal

pub returns-clause-same_answers : goal.returns-clause-same_answers
returns-clause-same_answers g c =
    (Runs-agree _ _ _ _ c.step_each.new.answers c.step_each-2.new.answers (omega arith) c.requires.agree c.step_each.ensures.run c.step_each.ensures.only c.step_each-2.ensures.run).0

pub returns-clause-agree_after : goal.returns-clause-agree_after
returns-clause-agree_after g c =
    (Runs-agree _ _ _ _ c.step_each.new.answers c.step_each-2.new.answers (omega arith) c.requires.agree c.step_each.ensures.run c.step_each.ensures.only c.step_each-2.ensures.run).1.agree

pub returns-clause-same_last : goal.returns-clause-same_last
returns-clause-same_last g c = λ some.
    ap (λ (s : State). s.last) ((Runs-agree _ _ _ _ c.step_each.new.answers c.step_each-2.new.answers (omega arith) c.requires.agree c.step_each.ensures.run c.step_each.ensures.only c.step_each-2.ensures.run).1.same (omega arith))
