use Rattle.std.proofs.Common.{[], refl, arith}
use Rattle.rrs_files.specs.Calls.{IsFromNowhere, SeekFailed, IsMoved}
use Rattle.rrs_files.proofs.files.Files.seek_to.Goals as goal

pub returns-then-from-gt2-clause-does : goal.returns-then-from-gt2-clause-does
returns-then-from-gt2-clause-does g c = record {
  accesses = [];
  these = IsFromNowhere c.in-Some.place c.in-Some.ensures (omega (arith, c.if-from-gt2.true)) refl refl refl refl;
  made = refl;
}

pub returns-in-Err-clause-does : goal.returns-in-Err-clause-does
returns-in-Err-clause-does g c = record {
  accesses = [];
  these = SeekFailed c.in-Some.place c.seek.new.self c.in-Some.ensures (omega (arith, c.if-from-gt2.false))
      c.in-Err.ensures refl refl refl;
  made = refl;
}

pub returns-in-Ok-clause-does : goal.returns-in-Ok-clause-does
returns-in-Ok-clause-does g c =
    let put = c.put_bytes.ensures.put in
    record {
      accesses = put.accesses;
      these = IsMoved c.in-Some.place c.in-Ok.position c.seek.new.self c.in-Some.ensures
          (omega (arith, c.if-from-gt2.false)) c.in-Ok.ensures refl (rw c.to_le_bytes.ensures at put.these);
      made = put.made;
    }
