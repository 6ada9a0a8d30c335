use Rattle.std.proofs.Common.{refl}
use Rattle.rrs_asm.specs.Names.{data_names, fill_names, silent_names, section_names, common_names}
use Rattle.rrs_asm.specs.Forms.{fits_directive}
use Rattle.rrs_asm.proofs.Tables.{directive-form}
use Rattle.rrs_asm.proofs.names.directive_named.Goals as goal

pub returns : goal.returns
unfolding data_names fill_names silent_names section_names common_names
returns c = directive-form c.args.name.now c.directive_in.result (c.directive_in.ensures fits_directive refl)
