-- An instruction that accesses nothing.
use Rattle.std.proofs.Common.{None, rules}
use Rattle.rrs_trace.proofs.OutsideSteps.{performs_alone}
use Rattle.rrs_trace.proofs.outside.perform.Goals as goal

pub returns-in-Ok-None-clause-performs : goal.returns-in-Ok-None-clause-performs
returns-in-Ok-None-clause-performs c =
    performs_alone _ _ _ _ _ _ _ (c.data_request_of.ensures None) (search rules) c.step_alone.ensures.steps
