-- What was gone on from is what the instruction leaves.
use Rattle.std.proofs.Common.{rules}
use Rattle.rrs_trace.proofs.OutsideSteps.{gone_alone}
use Rattle.rrs_trace.proofs.outside.step_alone.Goals as goal

pub returns-clause-steps : goal.returns-clause-steps
returns-clause-steps c =
    gone_alone _ _ _ _ _ _ _ _ c.process.ensures.goes_on c.step_answer-answer.ensures (search rules) (search rules)
