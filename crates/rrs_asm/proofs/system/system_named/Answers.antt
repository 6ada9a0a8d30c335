use Rattle.std.proofs.Common.{refl}
use Rattle.rrs_asm.specs.Forms.{fits_system}
use Rattle.rrs_asm.proofs.Tables.{system-name}
use Rattle.rrs_asm.proofs.system.system_named.Goals as goal

pub returns : goal.returns
returns c = system-name _ _ (c.system_in.ensures fits_system refl)
