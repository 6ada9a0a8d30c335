use Rattle.std.proofs.Common.{refl}
use Rattle.rrs_asm.specs.Forms.{fits_pseudo}
use Rattle.rrs_asm.proofs.Tables.{pseudo-name}
use Rattle.rrs_asm.proofs.names.pseudo_named.Goals as goal

pub returns : goal.returns
returns c = pseudo-name _ _ (c.pseudo_in.ensures fits_pseudo refl)
