-- The step is that of the hart's parts, and a state has one.
use Rattle.rrs_lib.proofs.Stepping.{Step-unique}
use Rattle.rrs_lib.proofs.Rows.{one_row_at_most}
use Rattle.rrs_trace.proofs.retired.step_retired.Goals as goal

pub returns-clause-step : goal.returns-clause-step
returns-clause-step g c = c.step_retired_parts.ensures.step c.args.executor.now.hart_state.now.last_register_write

pub returns-clause-only : goal.returns-clause-only
returns-clause-only g c = λ t answer other.
    Step-unique one_row_at_most _ t _ answer _ other (returns-clause-step g c)

pub returns-clause-retires : goal.returns-clause-retires
returns-clause-retires g c =
    c.step_retired_parts.ensures.retires c.args.executor.now.hart_state.now.last_register_write

pub returns-clause-accesses : goal.returns-clause-accesses
returns-clause-accesses g c =
    c.step_retired_parts.ensures.accesses c.args.executor.now.hart_state.now.last_register_write
