use Rattle.std.proofs.Common.{refl}
use Rattle.rrs_files.specs.Calls.{IsTaken, IsNot, HasNoText}
use Rattle.rrs_files.proofs.files.Files.path_at.Goals as goal

pub returns-in-Err-clause-refused : goal.returns-in-Err-clause-refused
returns-in-Err-clause-refused g c =
    let read = c.in-Err.ensures.refused in
    record { accesses = read.accesses; these = HasNoText c.in-Err.error read.these refl; made = read.made }

pub returns-in-Some-clause-refused : goal.returns-in-Some-clause-refused
returns-in-Some-clause-refused g c =
    let read = c.in-Ok.ensures.read in
    record { accesses = read.accesses; these = IsNot _ c.in-Some.error read.these c.in-Some.ensures refl; made = read.made }

pub returns-in-None-clause-taken : goal.returns-in-None-clause-taken
returns-in-None-clause-taken g c =
    let read = c.in-Ok.ensures.read in
    record { accesses = read.accesses; these = IsTaken _ read.these c.in-None.ensures refl; made = read.made }
