use Rattle.std.proofs.Common.{refl, sym}
use Rattle.rrs_files.specs.Acts.{MayNotChange, IsChanged}
use Rattle.rrs_files.proofs.files.Files.change.Goals as goal

pub returns-in-Some-withholding : goal.returns-in-Some-withholding
returns-in-Some-withholding g c =
    MayNotChange c.in-Some.place c.in-Some.ensures (sym c.in-Some-withholding.ensures) refl

pub returns-in-None : goal.returns-in-None
returns-in-None g c =
    IsChanged c.in-Some.place c.change.new.self c.change.result c.in-Some.ensures
    (sym c.in-None.ensures) c.change.ensures refl c.unwrap_or.ensures
