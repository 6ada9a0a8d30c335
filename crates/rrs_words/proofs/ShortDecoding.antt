-- A half-word that is a compressed instruction is decoded to it, and the offset of a jump stands in
-- bits 12 to 2 of its half-word.
use Rattle.std.proofs.Common.{◌≡◌, ℕ, ◌+◌, ◌*◌, ◌/◌, ◌%◌, ◌^◌, Option, Some, None, IfSome, IfNone, sym, ap, arith}
use Rattle.rrs_words.specs.declared.forms.ShortForm.{ShortForm}
use Rattle.rrs_words.specs.declared.forms.ShortOperands.{ShortOperands}
use Rattle.rrs_words.specs.declared.forms.ShortInstruction.{ShortInstruction}
use Rattle.rrs_words.specs.Forms.{IsShort, immediate_bits, jump_offset}

pub jump_bits : (h base x : ℕ) → base % 2 ^ 13 ≡ 1
    → h ≡ base + 0 + 0 + immediate_bits jump_offset.pieces x
    → immediate_bits jump_offset.pieces x ≡ h / 2 ^ 2 % 2 ^ 11 * 2 ^ 2
jump_bits h base x low encoded = omega (arith, low, encoded)

pub same_operands : (one other : ShortOperands) → one.first ≡ other.first
    → one.second ≡ other.second → one.imm ≡ other.imm → one ≡ other
same_operands one other first second imm =
    λ k. record { first = first k; second = second k; imm = imm k }

pub short_decoded_again : (result : Option ShortInstruction) (h : ℕ) (i : ShortInstruction) → IsShort h i.form i.operands
    → IfNone result ((form : ShortForm) (o : ShortOperands) → ¬ IsShort h form o)
    → IfSome result (λ x. (form : ShortForm) (o : ShortOperands) → IsShort h form o → (form ≡ x.form) × (o ≡ x.operands))
    → result ≡ Some i
short_decoded_again None h i is outside only = absurd (outside i.form i.operands is)
short_decoded_again (Some x) h i is outside only =
    let same = only i.form i.operands is in
    let made : x ≡ i = λ k. record { form = sym same.0 k; operands = sym same.1 k } in
    ap Some made
