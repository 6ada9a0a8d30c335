-- What the code computes is the remainder as it is stated, by the lemma on words.
use Rattle.std.proofs.Common.{rules}
use Rattle.rrs_instruction.proofs.Signed.{remainder-is_word}
use Rattle.rrs_instruction.proofs.arithmetic.rem.Goals as goal

pub returns : goal.returns
returns c =
    remainder-is_word c.args.a c.args.b c.cast_signed.result c.cast_signed-2.result c.wrapping_rem.result c.cast_unsigned.result
    c.ranges.a.fits c.ranges.b.fits (search rules) (search rules) (search rules) (search rules)
    c.cast_signed.ensures c.cast_signed-2.ensures c.wrapping_rem.ensures c.cast_unsigned.ensures
