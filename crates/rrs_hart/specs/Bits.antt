-- What the instructions of Zba to Zicond do (RISC-V unprivileged specification, "B" Extension for Bit
-- Manipulation, its scalar cryptography, and "Integer Conditional Operations", "Operation" of each),
-- by a width that is 32 here. x is the value of rs1, and y that of rs2 or the shift amount. Nothing
-- raises an exception, and the pc stays: the caller moves it.
use Rattle.std.specs.Prelude.{ℕ, zero, suc, ◌+◌, ◌-◌, ◌*◌, ◌/◌, ◌%◌, ◌^◌, ◌==◌, if◌then◌else◌, pos, map, count_ones}
use Rattle.std.specs.Int.{w8, w32, leading_zeros, trailing_zeros, rotate_left, rotate_right, reverse_bits, to_le_bytes, from_le_bytes, from_be_bytes}
use Rattle.std.specs.Int.Bits.{bit_xor}
use Rattle.rrs_instruction.specs.declared.instruction_formats.RType.{RType}
use Rattle.rrs_instruction.specs.Words.{word, bit}
use Rattle.rrs_instruction.specs.Results.{add, sll, xor, or, and, less, less_unsigned, sign_extended}
use Rattle.rrs_lib.specs.Machine.{State, reg, put}
use Rattle.rrs_words.specs.declared.bits.BitOperand.{BitOperand}
use Rattle.rrs_words.specs.declared.bits.BitOperand.TheVariants.{Register, NotX0}
use Rattle.rrs_words.specs.declared.bits.BitRow.{BitRow}
use Rattle.rrs_words.specs.declared.bits.BitRow.TheVariants.{Sh1add, Sh2add, Sh3add, Andn, Orn, Xnor, Clz, Ctz, Cpop, Max, Maxu, Min, Minu, SextB, SextH, ZextH, Rol, Ror, Rori, OrcB, Rev8, Bclr, Bclri, Bext, Bexti, Binv, Binvi, Bset, Bseti, Clmul, Clmulh, Clmulr, Pack, Packh, Brev8, Zip, Unzip, CzeroEqz, CzeroNez}
use Rattle.rrs_words.specs.BitInstructions.{bit_table}

-- each bit inverted
abbrev pub inverted : ℕ → ℕ
inverted x = 2 ^ 32 - 1 - x

-- the bit at place y modulo 32 alone
abbrev pub single : ℕ → ℕ
single y = word (sll 1 y)

-- the low n bytes, extended by their sign
abbrev pub low_extended : ℕ → ℕ → ℕ
low_extended n x = word (sign_extended n (x % 2 ^ (8 * n)))

-- orc.b of a byte
abbrev pub whole_byte : ℕ → ℕ
whole_byte b = if b == 0 then 0 else 0xff

-- The product without carries of x and the low n bits of y, lowest first: each bit of y that is 1
-- adds x at its place, and the sum of two bits is taken modulo 2.
unfoldable pub carryless : ℕ → ℕ → ℕ → ℕ
carryless zero x y = 0
carryless (suc n) x y = bit_xor (if y % 2 == 1 then x else 0) (2 * carryless n x (y / 2))

-- the low n bits of x and of y in turn, lowest first
unfoldable pub in_turn : ℕ → ℕ → ℕ → ℕ
in_turn zero x y = 0
in_turn (suc n) x y = x % 2 + y % 2 * 2 + 4 * in_turn n (x / 2) (y / 2)

-- every other one of the low 2 n bits of x, lowest first
unfoldable pub every_other : ℕ → ℕ → ℕ
every_other zero x = 0
every_other (suc n) x = x % 2 + 2 * every_other n (x / 4)

abbrev pub bit_result : BitRow → ℕ → ℕ → ℕ
bit_result Sh1add x y = word (add (x * 2) y)
bit_result Sh2add x y = word (add (x * 4) y)
bit_result Sh3add x y = word (add (x * 8) y)
bit_result Andn x y = word (and x (inverted y))
bit_result Orn x y = word (or x (inverted y))
bit_result Xnor x y = inverted (word (xor x y))
bit_result Clz x y = leading_zeros w32 x
bit_result Ctz x y = trailing_zeros w32 x
bit_result Cpop x y = count_ones x
bit_result Max x y = if less x y then y else x
bit_result Maxu x y = if less_unsigned x y then y else x
bit_result Min x y = if less x y then x else y
bit_result Minu x y = if less_unsigned x y then x else y
bit_result SextB x y = low_extended 1 x
bit_result SextH x y = low_extended 2 x
bit_result ZextH x y = x % 2 ^ 16
bit_result Rol x y = rotate_left w32 x y
bit_result Ror x y = rotate_right w32 x y
bit_result Rori x y = rotate_right w32 x y
bit_result OrcB x y = from_le_bytes w32 (map whole_byte (to_le_bytes w32 x))
bit_result Rev8 x y = from_be_bytes w32 (to_le_bytes w32 x)
bit_result Bclr x y = word (and x (inverted (single y)))
bit_result Bclri x y = word (and x (inverted (single y)))
bit_result Bext x y = bit x (y % 32)
bit_result Bexti x y = bit x (y % 32)
bit_result Binv x y = word (xor x (single y))
bit_result Binvi x y = word (xor x (single y))
bit_result Bset x y = word (or x (single y))
bit_result Bseti x y = word (or x (single y))
bit_result Clmul x y = carryless 32 x y % 2 ^ 32
bit_result Clmulh x y = carryless 32 x y / 2 ^ 32
bit_result Clmulr x y = carryless 32 x y / 2 ^ 31 % 2 ^ 32
bit_result Pack x y = x % 2 ^ 16 + y % 2 ^ 16 * 2 ^ 16
bit_result Packh x y = x % 2 ^ 8 + y % 2 ^ 8 * 2 ^ 8
bit_result Brev8 x y = from_le_bytes w32 (map (reverse_bits w8) (to_le_bytes w32 x))
bit_result Zip x y = in_turn 16 x (x / 2 ^ 16)
bit_result Unzip x y = every_other 16 x + every_other 16 (x / 2) * 2 ^ 16
bit_result CzeroEqz x y = if y == 0 then 0 else x
bit_result CzeroNez x y = if y == 0 then x else 0

-- what stands in the place of rs2: the value of a register, or the number itself
abbrev pub second_operand : BitOperand → ℕ → State → ℕ
second_operand Register n s = reg s n
second_operand NotX0 n s = reg s n
second_operand _ n s = n

-- rd gets the result
abbrev pub bits_done : BitRow → RType → State → State
bits_done row f s =
    put s f.rd
    (pos (bit_result row (reg s f.rs1) (second_operand (bit_table row).operand f.rs2 s)))
