use Rattle.rrs_files.proofs.statuses.put_told.Goals as goal

pub returns-in-Stat64-clause-put : goal.returns-in-Stat64-clause-put
returns-in-Stat64-clause-put g c =
    rw c.in-Stat64.is (rw c.status_bytes.ensures at c.put_bytes.ensures.put)

pub returns-in-Statx-clause-put : goal.returns-in-Statx-clause-put
returns-in-Statx-clause-put g c =
    rw c.in-Statx.is (rw c.extended_bytes.ensures at c.put_bytes-in-Statx.ensures.put)
