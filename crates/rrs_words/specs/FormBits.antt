-- What tells a form from the others: bits 1 to 0, bits 15 to 13, and what more it needs. No
-- half-word has the bits of two forms.
use Rattle.std.specs.Prelude.{◌≡◌, ◌≢◌, ℕ, ◌/◌, ◌%◌, ◌^◌}
use Rattle.rrs_words.specs.declared.forms.ShortForm.{ShortForm}
use Rattle.rrs_words.specs.declared.forms.ShortForm.TheVariants.{Addi4spn, Lw, Sw, Addi, Jal, Li, Addi16sp, Lui, Srli, Srai, Andi, Sub, Xor, Or, And, J, Beqz, Bnez, Slli, Lwsp, Jr, Mv, Ebreak, Jalr, Add, Swsp}

abbrev pub HasBits : ℕ → ShortForm → Type 0
HasBits h Addi4spn = (h % 4 ≡ 0) × (h / 2 ^ 13 ≡ 0) × (h / 2 ^ 5 % 2 ^ 8 ≢ 0)
HasBits h Lw = (h % 4 ≡ 0) × (h / 2 ^ 13 ≡ 2)
HasBits h Sw = (h % 4 ≡ 0) × (h / 2 ^ 13 ≡ 6)
HasBits h Addi = (h % 4 ≡ 1) × (h / 2 ^ 13 ≡ 0)
HasBits h Jal = (h % 4 ≡ 1) × (h / 2 ^ 13 ≡ 1)
HasBits h Li = (h % 4 ≡ 1) × (h / 2 ^ 13 ≡ 2)
HasBits h Addi16sp =
    (h % 4 ≡ 1) × (h / 2 ^ 13 ≡ 3) × (h / 2 ^ 7 % 32 ≡ 2)
    × ((h / 2 ^ 12 % 2 ≡ 0) → h / 4 % 32 ≢ 0)
HasBits h Lui =
    (h % 4 ≡ 1) × (h / 2 ^ 13 ≡ 3) × (h / 2 ^ 7 % 32 ≢ 2)
    × ((h / 2 ^ 12 % 2 ≡ 0) → h / 4 % 32 ≢ 0)
HasBits h Srli = (h % 4 ≡ 1) × (h / 2 ^ 13 ≡ 4) × (h / 2 ^ 10 % 8 ≡ 0)
HasBits h Srai = (h % 4 ≡ 1) × (h / 2 ^ 13 ≡ 4) × (h / 2 ^ 10 % 8 ≡ 1)
HasBits h Andi = (h % 4 ≡ 1) × (h / 2 ^ 13 ≡ 4) × (h / 2 ^ 10 % 4 ≡ 2)
HasBits h Sub = (h % 4 ≡ 1) × (h / 2 ^ 13 ≡ 4) × (h / 2 ^ 10 % 8 ≡ 3) × (h / 2 ^ 5 % 4 ≡ 0)
HasBits h Xor = (h % 4 ≡ 1) × (h / 2 ^ 13 ≡ 4) × (h / 2 ^ 10 % 8 ≡ 3) × (h / 2 ^ 5 % 4 ≡ 1)
HasBits h Or = (h % 4 ≡ 1) × (h / 2 ^ 13 ≡ 4) × (h / 2 ^ 10 % 8 ≡ 3) × (h / 2 ^ 5 % 4 ≡ 2)
HasBits h And = (h % 4 ≡ 1) × (h / 2 ^ 13 ≡ 4) × (h / 2 ^ 10 % 8 ≡ 3) × (h / 2 ^ 5 % 4 ≡ 3)
HasBits h J = (h % 4 ≡ 1) × (h / 2 ^ 13 ≡ 5)
HasBits h Beqz = (h % 4 ≡ 1) × (h / 2 ^ 13 ≡ 6)
HasBits h Bnez = (h % 4 ≡ 1) × (h / 2 ^ 13 ≡ 7)
HasBits h Slli = (h % 4 ≡ 2) × (h / 2 ^ 12 ≡ 0)
HasBits h Lwsp = (h % 4 ≡ 2) × (h / 2 ^ 13 ≡ 2) × (h / 2 ^ 7 % 32 ≢ 0)
HasBits h Jr = (h % 4 ≡ 2) × (h / 2 ^ 12 ≡ 8) × (h / 4 % 32 ≡ 0) × (h / 2 ^ 7 % 32 ≢ 0)
HasBits h Mv = (h % 4 ≡ 2) × (h / 2 ^ 12 ≡ 8) × (h / 4 % 32 ≢ 0)
HasBits h Ebreak = h ≡ 0x9002
HasBits h Jalr = (h % 4 ≡ 2) × (h / 2 ^ 12 ≡ 9) × (h / 4 % 32 ≡ 0) × (h / 2 ^ 7 % 32 ≢ 0)
HasBits h Add = (h % 4 ≡ 2) × (h / 2 ^ 12 ≡ 9) × (h / 4 % 32 ≢ 0)
HasBits h Swsp = (h % 4 ≡ 2) × (h / 2 ^ 13 ≡ 6)
