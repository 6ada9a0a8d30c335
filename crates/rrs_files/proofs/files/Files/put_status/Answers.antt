use Rattle.std.proofs.Common.{[], refl}
use Rattle.rrs_files.specs.Calls.{TellFailed, IsTold}
use Rattle.rrs_files.proofs.files.Files.put_status.Goals as goal

pub returns-in-Err-clause-does : goal.returns-in-Err-clause-does
returns-in-Err-clause-does g c = record {
  accesses = [];
  these = TellFailed c.in-Some.place c.status.new.self c.in-Some.ensures c.in-Err.ensures refl refl refl;
  made = refl;
}

pub returns-in-Ok-clause-does : goal.returns-in-Ok-clause-does
returns-in-Ok-clause-does g c =
    let put = c.put_told.ensures.put in
    record {
      accesses = put.accesses;
      these = IsTold c.in-Some.place c.status.new.self c.in-Ok.status c.in-Some.ensures c.in-Ok.ensures refl
          put.these;
      made = put.made;
    }
