-- A half-word is one compressed instruction at most.
use Rattle.std.proofs.Common.{◌≡◌, ℕ, ◌+◌, ◌*◌, ◌/◌, ◌%◌, ◌^◌, ◌<◌, ◌==◌, if◌then◌else◌, false, Option, Some, refl, sym, subst, ap, ◌∙◌, arith}
use Rattle.std.proofs.lemmas.Option.{same_Some}
use Rattle.std.proofs.lemmas.Bool.{ne_eqb}
use Rattle.rrs_words.specs.declared.forms.ShortForm.{ShortForm}
use Rattle.rrs_words.specs.declared.forms.ShortForm.TheVariants.{Addi4spn, Lw, Sw, Addi, Jal, Li, Addi16sp, Lui, Srli, Srai, Andi, Sub, Xor, Or, And, J, Beqz, Bnez, Slli, Lwsp, Jr, Mv, Ebreak, Jalr, Add, Swsp}
use Rattle.rrs_words.specs.declared.forms.ShortOperands.{ShortOperands}
use Rattle.rrs_words.specs.Forms.{IsShort, immediate_bits, jump_offset}
use Rattle.rrs_words.specs.FormBits.{HasBits}
use Rattle.rrs_words.proofs.FormBits.{form_bits}
use Rattle.rrs_words.proofs.ShortDecoding.{same_operands, jump_bits}

-- ---- the form, by numbers in the half-word: the low two bits, the upper three, and what tells more

abbrev of_upper : ℕ → Option ShortForm
of_upper register = if register == 2 then Some Addi16sp else Some Lui

abbrev of_arithmetic : ℕ → ℕ → ℕ → Option ShortForm
of_arithmetic three two which =
    if two == 2 then Some Andi
    else (if three == 0 then Some Srli
    else (if three == 1 then Some Srai
    else (if which == 0 then Some Sub
    else (if which == 1 then Some Xor
    else (if which == 2 then Some Or else Some And)))))

abbrev of_moves : ℕ → ℕ → ℕ → Option ShortForm
of_moves bit first second =
    if second == 0
    then (if bit == 0 then Some Jr else (if first == 0 then Some Ebreak else Some Jalr))
    else (if bit == 0 then Some Mv else Some Add)

abbrev of_numbers : (quadrant funct3 register three two which bit second : ℕ) → Option ShortForm
of_numbers quadrant funct3 register three two which bit second =
    if quadrant == 0
    then (if funct3 == 0 then Some Addi4spn else (if funct3 == 2 then Some Lw else Some Sw))
    else (if quadrant == 1
    then (if funct3 == 0 then Some Addi
    else (if funct3 == 1 then Some Jal
    else (if funct3 == 2 then Some Li
    else (if funct3 == 3 then of_upper register
    else (if funct3 == 4 then of_arithmetic three two which
    else (if funct3 == 5 then Some J
    else (if funct3 == 6 then Some Beqz else Some Bnez)))))))
    else (if funct3 == 0 then Some Slli
    else (if funct3 == 2 then Some Lwsp
    else (if funct3 == 4 then of_moves bit register second else Some Swsp))))

abbrev form_at : ℕ → Option ShortForm
form_at h =
    of_numbers (h % 4) (h / 2 ^ 13) (h / 2 ^ 7 % 32) (h / 2 ^ 10 % 8) (h / 2 ^ 10 % 4) (h / 2 ^ 5 % 4)
    (h / 2 ^ 12 % 2) (h / 4 % 32)

form_at-is : (h : ℕ) (form : ShortForm) → HasBits h form → form_at h ≡ Some form
form_at-is h Addi4spn (q, f, z) = rw (q, f) refl
form_at-is h Lw (q, f) = rw (q, f) refl
form_at-is h Sw (q, f) = rw (q, f) refl
form_at-is h Addi (q, f) = rw (q, f) refl
form_at-is h Jal (q, f) = rw (q, f) refl
form_at-is h Li (q, f) = rw (q, f) refl
form_at-is h Addi16sp (q, f, r, z) = rw (q, f, r) refl
form_at-is h Lui (q, f, r, z) =
    let other : (h / 2 ^ 7 % 32 == 2) ≡ false = ne_eqb _ _ r in
    rw (q, f, other) refl
form_at-is h Srli (q, f, a) =
    let two : h / 2 ^ 10 % 4 ≡ 0 = omega (arith, a) in
    rw (q, f, a, two) refl
form_at-is h Srai (q, f, a) =
    let two : h / 2 ^ 10 % 4 ≡ 1 = omega (arith, a) in
    rw (q, f, a, two) refl
form_at-is h Andi (q, f, a) = rw (q, f, a) refl
form_at-is h Sub (q, f, a, b) =
    let two : h / 2 ^ 10 % 4 ≡ 3 = omega (arith, a) in
    rw (q, f, a, two, b) refl
form_at-is h Xor (q, f, a, b) =
    let two : h / 2 ^ 10 % 4 ≡ 3 = omega (arith, a) in
    rw (q, f, a, two, b) refl
form_at-is h Or (q, f, a, b) =
    let two : h / 2 ^ 10 % 4 ≡ 3 = omega (arith, a) in
    rw (q, f, a, two, b) refl
form_at-is h And (q, f, a, b) =
    let two : h / 2 ^ 10 % 4 ≡ 3 = omega (arith, a) in
    rw (q, f, a, two, b) refl
form_at-is h J (q, f) = rw (q, f) refl
form_at-is h Beqz (q, f) = rw (q, f) refl
form_at-is h Bnez (q, f) = rw (q, f) refl
form_at-is h Slli (q, f) =
    let upper : h / 2 ^ 13 ≡ 0 = omega (arith, f) in
    rw (q, upper) refl
form_at-is h Lwsp (q, f, z) = rw (q, f) refl
form_at-is h Jr (q, f, s, r) =
    let upper : h / 2 ^ 13 ≡ 4 = omega (arith, f) in
    let bit : h / 2 ^ 12 % 2 ≡ 0 = omega (arith, f) in
    rw (q, upper, bit, s) refl
form_at-is h Mv (q, f, s) =
    let upper : h / 2 ^ 13 ≡ 4 = omega (arith, f) in
    let bit : h / 2 ^ 12 % 2 ≡ 0 = omega (arith, f) in
    let other : (h / 4 % 32 == 0) ≡ false = ne_eqb _ _ s in
    rw (q, upper, bit, other) refl
form_at-is h Ebreak is = ap form_at is
form_at-is h Jalr (q, f, s, r) =
    let upper : h / 2 ^ 13 ≡ 4 = omega (arith, f) in
    let bit : h / 2 ^ 12 % 2 ≡ 1 = omega (arith, f) in
    let other : (h / 2 ^ 7 % 32 == 0) ≡ false = ne_eqb _ _ r in
    rw (q, upper, bit, s, other) refl
form_at-is h Add (q, f, s) =
    let upper : h / 2 ^ 13 ≡ 4 = omega (arith, f) in
    let bit : h / 2 ^ 12 % 2 ≡ 1 = omega (arith, f) in
    let other : (h / 4 % 32 == 0) ≡ false = ne_eqb _ _ s in
    rw (q, upper, bit, other) refl
form_at-is h Swsp (q, f) = rw (q, f) refl

-- ---- the operands

-- the offset of a jump, by the bits of the half-word
jump_of : (h x : ℕ) → x < 2 ^ 12 → x % 2 ≡ 0 → immediate_bits jump_offset.pieces x ≡ h / 2 ^ 2 % 2 ^ 11 * 2 ^ 2
    → x ≡ h / 0x1000 % 2 * 0x800 + h / 0x800 % 2 * 0x10 + h / 0x200 % 4 * 0x100 + h / 0x100 % 2 * 0x400 + h / 0x80 % 2 * 0x40 + h / 0x40 % 2 * 0x80 + h / 8 % 8 * 2 + h / 4 % 2 * 0x20
jump_of h x below even bits = grind arith

jumps : (h base : ℕ) (o o' : ShortOperands) → base % 2 ^ 13 ≡ 1 → o.first ≡ 0 → o'.first ≡ 0 → o.second ≡ 0 → o'.second ≡ 0
    → o.imm < 2 ^ 12 → o'.imm < 2 ^ 12 → o.imm % 2 ≡ 0 → o'.imm % 2 ≡ 0
    → h ≡ base + 0 + 0 + immediate_bits jump_offset.pieces o.imm → h ≡ base + 0 + 0 + immediate_bits jump_offset.pieces o'.imm → o ≡ o'
jumps h base o o' low first first' second second' below below' even even' is is' =
    same_operands o o' (first ∙ sym first') (second ∙ sym second')
    (jump_of h o.imm below even (jump_bits h base o.imm low is) ∙ sym (jump_of h o'.imm below' even' (jump_bits h base o'.imm low is')))

one_tuple : (h : ℕ) (form : ShortForm) (o o' : ShortOperands) → IsShort h form o → IsShort h form o' → o ≡ o'
one_tuple h Addi4spn o o' is is' = same_operands o o' (grind arith) (grind arith) (grind arith)
one_tuple h Lw o o' is is' = same_operands o o' (grind arith) (grind arith) (grind arith)
one_tuple h Sw o o' is is' = same_operands o o' (grind arith) (grind arith) (grind arith)
one_tuple h Addi o o' is is' = same_operands o o' (grind arith) (grind arith) (grind arith)
one_tuple h Jal o o' is is' =
    jumps h 0x2001 o o' refl is.first_register is'.first_register is.second_register is'.second_register is.below is'.below is.multiple is'.multiple is.encoded is'.encoded
one_tuple h Li o o' is is' = same_operands o o' (grind arith) (grind arith) (grind arith)
one_tuple h Addi16sp o o' is is' = same_operands o o' (grind arith) (grind arith) (grind arith)
one_tuple h Lui o o' is is' = same_operands o o' (grind arith) (grind arith) (grind arith)
one_tuple h Srli o o' is is' = same_operands o o' (grind arith) (grind arith) (grind arith)
one_tuple h Srai o o' is is' = same_operands o o' (grind arith) (grind arith) (grind arith)
one_tuple h Andi o o' is is' = same_operands o o' (grind arith) (grind arith) (grind arith)
one_tuple h Sub o o' is is' = same_operands o o' (grind arith) (grind arith) (grind arith)
one_tuple h Xor o o' is is' = same_operands o o' (grind arith) (grind arith) (grind arith)
one_tuple h Or o o' is is' = same_operands o o' (grind arith) (grind arith) (grind arith)
one_tuple h And o o' is is' = same_operands o o' (grind arith) (grind arith) (grind arith)
one_tuple h J o o' is is' =
    jumps h 0xa001 o o' refl is.first_register is'.first_register is.second_register is'.second_register is.below is'.below is.multiple is'.multiple is.encoded is'.encoded
one_tuple h Beqz o o' is is' = same_operands o o' (grind arith) (grind arith) (grind arith)
one_tuple h Bnez o o' is is' = same_operands o o' (grind arith) (grind arith) (grind arith)
one_tuple h Slli o o' is is' = same_operands o o' (grind arith) (grind arith) (grind arith)
one_tuple h Lwsp o o' is is' = same_operands o o' (grind arith) (grind arith) (grind arith)
one_tuple h Jr o o' is is' = same_operands o o' (grind arith) (grind arith) (grind arith)
one_tuple h Mv o o' is is' = same_operands o o' (grind arith) (grind arith) (grind arith)
one_tuple h Ebreak o o' is is' = same_operands o o' (grind arith) (grind arith) (grind arith)
one_tuple h Jalr o o' is is' = same_operands o o' (grind arith) (grind arith) (grind arith)
one_tuple h Add o o' is is' = same_operands o o' (grind arith) (grind arith) (grind arith)
one_tuple h Swsp o o' is is' = same_operands o o' (grind arith) (grind arith) (grind arith)

pub one_short : (h : ℕ) (form form' : ShortForm) (o o' : ShortOperands) → IsShort h form o → IsShort h form' o' → (form ≡ form') × (o ≡ o')
one_short h form form' o o' is is' =
    let same : form ≡ form' = same_Some _ _ (sym (form_at-is h form (form_bits h form o is)) ∙ form_at-is h form' (form_bits h form' o' is')) in
    (same, one_tuple h form o o' is (subst (λ x. IsShort h x o') (sym same) is'))
