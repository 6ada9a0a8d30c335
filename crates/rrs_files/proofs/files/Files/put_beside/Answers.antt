use Rattle.std.proofs.Common.{[], refl, sym, ◌∙◌}
use Rattle.rrs_files.specs.Calls.{IsOfFile, IsOfOpenStream, IsOfNoFolder, IsOfFolder}
use Rattle.rrs_files.proofs.files.Files.put_beside.Goals as goal

pub returns-in-Some-clause-does : goal.returns-in-Some-clause-does
returns-in-Some-clause-does g c =
    let put = c.put_stream.ensures.put in
    record {
      accesses = put.accesses;
      these = IsOfOpenStream c.in-Some.field-0 (sym c.stream_of.ensures ∙ c.in-Some.is) refl put.these;
      made = put.made;
    }

pub returns-then-beside-ne-WORKING_DIRECTORY-clause-does :
    goal.returns-then-beside-ne-WORKING_DIRECTORY-clause-does
returns-then-beside-ne-WORKING_DIRECTORY-clause-does g c =
    let put = c.put_status.ensures.does in
    record {
      accesses = put.accesses;
      these = IsOfFile (sym c.stream_of.ensures ∙ c.in-None.is) c.if-beside-ne-WORKING_DIRECTORY.true put.these;
      made = put.made;
    }

pub returns-in-Err-clause-does : goal.returns-in-Err-clause-does
returns-in-Err-clause-does g c = record {
  accesses = [];
  these = IsOfNoFolder c.look.new.self c.if-beside-ne-WORKING_DIRECTORY.false c.in-Err.ensures refl refl refl;
  made = refl;
}

pub returns-in-Ok-clause-does : goal.returns-in-Ok-clause-does
returns-in-Ok-clause-does g c =
    let put = c.put_told.ensures.put in
    record {
      accesses = put.accesses;
      these = IsOfFolder c.look.new.self c.in-Ok.status c.if-beside-ne-WORKING_DIRECTORY.false c.in-Ok.ensures refl
          put.these;
      made = put.made;
    }
