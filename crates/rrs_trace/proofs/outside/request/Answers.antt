-- The hart's parts ask the same.
use Rattle.rrs_trace.proofs.outside.request.Goals as goal

pub returns-clause-access : goal.returns-clause-access
returns-clause-access c = c.request_parts.ensures.access c.args.hart.now.last_register_write

pub returns-clause-foretold : goal.returns-clause-foretold
returns-clause-foretold c = c.request_parts.ensures.foretold c.args.hart.now.last_register_write
