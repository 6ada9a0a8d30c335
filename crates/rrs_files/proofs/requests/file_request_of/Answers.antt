use Rattle.rrs_files.proofs.requests.file_request_of.Goals as goal

pub returns : goal.returns
returns c = λ bytes writable.
    rw (
      c.read_register-call.ensures bytes writable,
      c.read_register-first.ensures bytes writable,
      c.read_register-second.ensures bytes writable,
      c.read_register-third.ensures bytes writable,
      c.read_register-fourth.ensures bytes writable,
      c.read_register-fifth.ensures bytes writable,
    ) at c.request_by.ensures
