use Rattle.std.proofs.Common.{refl}
use Rattle.rrs_files.specs.Acts.{HasNoOwner, HasOwner}
use Rattle.rrs_files.proofs.files.Files.own.Goals as goal

pub returns-in-Err : goal.returns-in-Err
returns-in-Err g c =
    HasNoOwner c.in-Some.place c.status.new.self c.in-Some.ensures c.in-Err.ensures refl

pub returns-in-Ok : goal.returns-in-Ok
returns-in-Ok g c =
    HasOwner c.in-Some.place c.status.new.self c.in-Ok.status c.in-Some.ensures c.in-Ok.ensures refl
    c.owning.ensures
