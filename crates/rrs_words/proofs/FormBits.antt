-- A half-word that is a form has the bits that tell it.
use Rattle.std.proofs.Common.{ℕ, arith}
use Rattle.rrs_words.specs.declared.forms.ShortForm.{ShortForm}
use Rattle.rrs_words.specs.declared.forms.ShortForm.TheVariants.{Addi4spn, Lw, Sw, Addi, Jal, Li, Addi16sp, Lui, Srli, Srai, Andi, Sub, Xor, Or, And, J, Beqz, Bnez, Slli, Lwsp, Jr, Mv, Ebreak, Jalr, Add, Swsp}
use Rattle.rrs_words.specs.declared.forms.ShortOperands.{ShortOperands}
use Rattle.rrs_words.specs.Forms.{IsShort}
use Rattle.rrs_words.specs.FormBits.{HasBits}

pub form_bits : (h : ℕ) (form : ShortForm) (o : ShortOperands) → IsShort h form o → HasBits h form
form_bits h Addi4spn o is = grind arith
form_bits h Lw o is = grind arith
form_bits h Sw o is = grind arith
form_bits h Addi o is = grind arith
form_bits h Jal o is = grind arith
form_bits h Li o is = grind arith
form_bits h Addi16sp o is = grind arith
form_bits h Lui o is = grind arith
form_bits h Srli o is = grind arith
form_bits h Srai o is = grind arith
form_bits h Andi o is = grind arith
form_bits h Sub o is = grind arith
form_bits h Xor o is = grind arith
form_bits h Or o is = grind arith
form_bits h And o is = grind arith
form_bits h J o is = grind arith
form_bits h Beqz o is = grind arith
form_bits h Bnez o is = grind arith
form_bits h Slli o is = grind arith
form_bits h Lwsp o is = grind arith
form_bits h Jr o is = grind arith
form_bits h Mv o is = grind arith
form_bits h Ebreak o is = grind arith
form_bits h Jalr o is = grind arith
form_bits h Add o is = grind arith
form_bits h Swsp o is = grind arith
