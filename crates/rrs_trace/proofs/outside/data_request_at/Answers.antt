-- The hart's parts ask the same.
use Rattle.rrs_trace.proofs.outside.data_request_at.Goals as goal

pub returns : goal.returns
returns c = c.data_request_of.ensures c.args.hart.now.last_register_write
