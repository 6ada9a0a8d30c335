use Rattle.std.proofs.Common.{refl, sym}
use Rattle.rrs_files.specs.Acts.{IsNotMoved, IsNotReplaced, IsRenamed}
use Rattle.rrs_files.proofs.files.Files.rename.Goals as goal

pub returns-in-Some : goal.returns-in-Some
returns-in-Some g c =
    IsNotMoved c.walk-named.result c.walk-named.new.folder c.if-self.false c.walk-named.ensures
    (sym c.in-Some.ensures) refl

pub returns-in-Some-replacing : goal.returns-in-Some-replacing
returns-in-Some-replacing g c =
    IsNotReplaced c.walk-named.result c.walk-there.result c.walk-named.new.folder c.walk-there.new.folder
    c.if-self.false c.walk-named.ensures (sym c.in-None.ensures) c.walk-there.ensures
    (sym c.in-Some-replacing.ensures) refl

pub returns-in-None-replacing : goal.returns-in-None-replacing
returns-in-None-replacing g c =
    IsRenamed c.walk-named.result c.walk-there.result c.walk-named.new.folder c.walk-there.new.folder
    c.rename.new.self c.rename.result c.if-self.false c.walk-named.ensures (sym c.in-None.ensures)
    c.walk-there.ensures (sym c.in-None-replacing.ensures) c.rename.ensures refl c.unwrap_or.ensures
