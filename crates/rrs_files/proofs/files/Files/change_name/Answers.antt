use Rattle.std.proofs.Common.{refl, sym}
use Rattle.rrs_files.specs.Acts.{IsKept, HasChanged}
use Rattle.rrs_files.proofs.files.Files.change_name.Goals as goal

pub returns-in-Some : goal.returns-in-Some
returns-in-Some g c =
    IsKept c.walk.result c.walk.new.folder c.if-self.false c.walk.ensures (sym c.in-Some.ensures) refl

pub returns-in-None : goal.returns-in-None
returns-in-None g c =
    HasChanged c.walk.result c.walk.new.folder c.change_name.new.self c.change_name.result c.if-self.false
    c.walk.ensures (sym c.in-None.ensures) c.change_name.ensures refl c.unwrap_or.ensures
