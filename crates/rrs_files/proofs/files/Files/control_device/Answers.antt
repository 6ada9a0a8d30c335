use Rattle.std.proofs.Common.{refl}
use Rattle.rrs_files.specs.Acts.{IsNoTerminal}
use Rattle.rrs_files.proofs.files.Files.control_device.Goals as goal

pub returns-in-Some : goal.returns-in-Some
returns-in-Some g c = IsNoTerminal _ c.in-Some.ensures refl refl
