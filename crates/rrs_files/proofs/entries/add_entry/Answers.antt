use Rattle.std.proofs.Common.{refl}
use Rattle.rrs_files.specs.Entries.{HasNoEntry, IsEntry}
use Rattle.rrs_files.proofs.entries.add_entry.Goals as goal

pub returns-in-Err : goal.returns-in-Err
returns-in-Err g c = HasNoEntry c.in-Err.error c.in-Err.ensures.failed refl refl

pub returns-in-Ok-Some : goal.returns-in-Ok-Some
returns-in-Ok-Some g c =
    let told = rw c.in-Ok-Some.field-0-is at c.in-Ok-Some.ensures.told in
    IsEntry c.in-Ok-Some.entry _ told c.put_entry.ensures
