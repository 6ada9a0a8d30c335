use Rattle.std.proofs.Common.{refl}
use Rattle.rrs_files.specs.Calls.{IsDone, IsRefused}
use Rattle.rrs_files.proofs.files.Files.change_name_at.Goals as goal

pub returns-in-Err-clause-does : goal.returns-in-Err-clause-does
returns-in-Err-clause-does g c =
    let took = c.in-Err.ensures.refused in
    record {
      accesses = took.accesses;
      these = IsRefused took.these refl c.path_at.ensures.bytes_kept;
      made = took.made;
    }

pub returns-in-Ok-clause-does : goal.returns-in-Ok-clause-does
returns-in-Ok-clause-does g c =
    let took = c.in-Ok.ensures.taken in
    record {
      accesses = took.accesses;
      these = IsDone _ took.these c.change_name.ensures c.path_at.ensures.bytes_kept;
      made = took.made;
    }
