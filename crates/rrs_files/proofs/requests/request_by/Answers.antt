use Rattle.rrs_files.proofs.requests.request_by.Goals as goal

pub returns-in-79 : goal.returns-in-79
returns-in-79 c = rw c.in-79.is (c.named_status.ensures c.args.fifth)
