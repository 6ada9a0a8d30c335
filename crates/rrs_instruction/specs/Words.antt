-- Words and the numbers that they are (RISC-V unprivileged specification, "RV32I Base Integer
-- Instruction Set": XLEN is 32, signed values are in two's complement). A word is a number below 2
-- ^ 32. Formulas are over whole numbers; what they give is taken modulo 2 ^ 32 by `word`.
use Rattle.std.specs.Prelude.{ℕ, zero, suc, ◌+◌, ◌*◌, ◌/◌, ◌%◌, ◌^◌, ℤ, pos, ◌-ℤ◌, max, nat_lt, unsigned_abs, int_div, if◌then◌else◌}
use Rattle.std.specs.Int.{int_div_euclid, int_rem_euclid}

-- z divided by n, rounded down
abbrev pub floor_div : ℤ → ℕ → ℤ
floor_div z n = int_div_euclid z (pos n)

-- z modulo n, never negative
abbrev pub floor_mod : ℤ → ℕ → ℕ
floor_mod z n = unsigned_abs (int_rem_euclid z (pos n))

-- the word that a whole number is modulo 2 ^ 32
abbrev pub word : ℤ → ℕ
word z = floor_mod z (2 ^ 32)

-- the number that a word is in two's complement
abbrev pub signed : ℕ → ℤ
signed x = if nat_lt x (2 ^ 31) then pos x else pos x -ℤ pos (2 ^ 32)

-- the quotient rounded toward zero, for a divisor that is not 0
abbrev pub truncated_quotient : ℤ → ℤ → ℤ
truncated_quotient x y = int_div x y

-- bit i of x
abbrev pub bit : ℕ → ℕ → ℕ
bit x i = x / 2 ^ i % 2

-- the sum, over the places i below a count, of 2 ^ i times what the bits i of x and y are combined
-- to
unfoldable pub bit_by_bit : (ℕ → ℕ → ℕ) → ℕ → ℕ → ℕ → ℕ
bit_by_bit combined zero x y = 0
bit_by_bit combined (suc i) x y = bit_by_bit combined i x y + 2 ^ i * combined (bit x i) (bit y i)

-- the product, the greater, and the sum modulo 2 of the two bits at each of the 32 places
abbrev pub bitwise_and : ℕ → ℕ → ℕ
bitwise_and x y = bit_by_bit (λ a b. a * b) 32 x y

abbrev pub bitwise_or : ℕ → ℕ → ℕ
bitwise_or x y = bit_by_bit max 32 x y

abbrev pub bitwise_xor : ℕ → ℕ → ℕ
bitwise_xor x y = bit_by_bit (λ a b. (a + b) % 2) 32 x y
