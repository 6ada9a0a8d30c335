-- The hart's parts make the step.
use Rattle.rrs_trace.proofs.outside.complete.Goals as goal

pub returns-clause-step : goal.returns-clause-step
returns-clause-step c = c.complete_parts-end.ensures.step c.args.hart.now.last_register_write
