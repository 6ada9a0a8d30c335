-- The offset of a jump is that of its eleven bits.
use Rattle.std.proofs.Common.{◌∙◌, refl, sym, subst}
use Rattle.rrs_words.specs.declared.forms.ShortForm.TheVariants.{Jal, J}
use Rattle.rrs_words.specs.Forms.{IsShort}
use Rattle.rrs_words.proofs.ShortDecoding.{jump_bits, same_operands}
use Rattle.rrs_words.proofs.short_decoding.operands_of_quadrant_1.Goals as goal

pub returns-in-Jal-clause-only : goal.returns-in-Jal-clause-only
returns-in-Jal-clause-only c = λ other is.
    let there : IsShort c.args.half Jal other =
    subst (λ form. IsShort c.args.half form other) c.in-Jal.is is in
    let bits = jump_bits c.args.half 0x2001 other.imm refl there.encoded in
    let imm = c.read_jump_offset.ensures.only other.imm there.below there.multiple bits in
    let made = c.operands.ensures in
    same_operands other c.operands.result (there.first_register ∙ sym made.0) (there.second_register ∙ sym made.1)
    (imm ∙ sym made.2)

pub returns-in-J-clause-only : goal.returns-in-J-clause-only
returns-in-J-clause-only c = λ other is.
    let there : IsShort c.args.half J other =
    subst (λ form. IsShort c.args.half form other) c.in-J.is is in
    let bits = jump_bits c.args.half 0xa001 other.imm refl there.encoded in
    let imm = c.read_jump_offset-in-J.ensures.only other.imm there.below there.multiple bits in
    let made = c.operands-in-J.ensures in
    same_operands other c.operands-in-J.result (there.first_register ∙ sym made.0)
    (there.second_register ∙ sym made.1) (imm ∙ sym made.2)
