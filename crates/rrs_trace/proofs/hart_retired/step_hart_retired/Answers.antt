use Rattle.rrs_hart.proofs.HartSteps.{HartStep-unique}
use Rattle.rrs_trace.proofs.hart_retired.step_hart_retired.Goals as goal

pub returns-clause-only : goal.returns-clause-only
returns-clause-only g c = λ t' answer' other.
    HartStep-unique c.args.profile _ t' _ answer' _ other c.retire_parts.ensures.step
