use Rattle.std.proofs.Common.{refl, sym}
use Rattle.rrs_files.specs.Calls.{HasLink, HasNoLink}
use Rattle.rrs_files.proofs.serving.find_link.Goals as goal

pub returns-in-Some-clause-refused : goal.returns-in-Some-clause-refused
returns-in-Some-clause-refused g c =
    HasNoLink c.walk-named.result c.in-Some.error c.walk-named.ensures (sym c.in-Some.ensures) refl

pub returns-in-Ok-clause-found : goal.returns-in-Ok-clause-found
returns-in-Ok-clause-found g c =
    HasLink c.walk-named.result c.walk-named.new.folder c.walk-named.ensures (sym c.in-None.ensures) c.in-Ok.ensures.told

pub returns-in-Err-clause-refused : goal.returns-in-Err-clause-refused
returns-in-Err-clause-refused g c =
    HasLink c.walk-named.result c.walk-named.new.folder c.walk-named.ensures (sym c.in-None.ensures) c.in-Err.ensures.failed
