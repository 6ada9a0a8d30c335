use Rattle.std.proofs.Common.{rules}
use Rattle.rrs_instruction.proofs.SignExtension.{sign_extended_is}
use Rattle.rrs_instruction.proofs.instruction_formats.sign_extended.Goals as goal

pub returns : goal.returns
returns c =
    let is = sign_extended_is c.args.value c.args.width c.cast_signed.result c.requires.narrow.0 c.requires.narrow.1
    c.requires.fits (search rules) c.cast_signed.ensures in
    record { from_least = is.0; to_greatest = is.1; low_bits = is.2 }
