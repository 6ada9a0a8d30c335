-- The bits of two numbers combined one by one are what the operators `&`, `|` and `^` give.
use Rattle.std.proofs.Common.{◌≡◌, ℕ, zero, suc, ◌+◌, ◌*◌, ◌/◌, ◌%◌, ◌^◌, ◌<◌, ◌⊎◌, max, bit_and, bit_or, sym, refl, inl, inr, arith}
use Rattle.std.specs.Int.Bits.{bit_xor}
use Rattle.std.proofs.lemmas.Nat.{mod-pow-add, mod_below, pow_pos, and_block, or_block, xor_block, and_le_l, or_lt, xor_lt}
use Rattle.std.proofs.Math.Nat.{mod-one, mod-eq_of_lt, mul_comm}
use Rattle.std.proofs.Math.Numerals.{one-add}
use Rattle.rrs_instruction.specs.Words.{bit, bit_by_bit, bitwise_and, bitwise_or, bitwise_xor}

-- the lowest n + 1 bits are bit n and the lowest n bits
low_bits-suc : (x n : ℕ) → x % 2 ^ suc n ≡ bit x n * 2 ^ n + x % 2 ^ n
low_bits-suc x n = rw (← one-add n) (mod-pow-add x 1 n)

-- an operator that works on blocks of bits, and on single bits as `combined` does, combines the bits one by one
by_blocks : (combined whole : ℕ → ℕ → ℕ)
    → ((k a b r s : ℕ) → r < 2 ^ k → s < 2 ^ k → whole (a * 2 ^ k + r) (b * 2 ^ k + s) ≡ whole a b * 2 ^ k + whole r s)
    → ((a b : ℕ) → a < 2 → b < 2 → combined a b ≡ whole a b)
    → whole 0 0 ≡ 0
    → (n x y : ℕ) → bit_by_bit combined n x y ≡ whole (x % 2 ^ n) (y % 2 ^ n)
unfolding bit_by_bit
by_blocks combined whole blocks single none zero x y = rw (mod-one x, mod-one y) (sym none)
by_blocks combined whole blocks single none (suc n) x y =
    let a : ℕ = bit x n in
    let b : ℕ = bit y n in
    let before : bit_by_bit combined n x y ≡ whole (x % 2 ^ n) (y % 2 ^ n) = by_blocks combined whole blocks single none n x y in
    let here : combined a b ≡ whole a b = single a b (mod_below (x / 2 ^ n) 2 (omega arith)) (mod_below (y / 2 ^ n) 2 (omega arith)) in
    let block : whole (a * 2 ^ n + x % 2 ^ n) (b * 2 ^ n + y % 2 ^ n) ≡ whole a b * 2 ^ n + whole (x % 2 ^ n) (y % 2 ^ n) =
    blocks n a b (x % 2 ^ n) (y % 2 ^ n) (mod_below x (2 ^ n) (pow_pos n)) (mod_below y (2 ^ n) (pow_pos n)) in
    rw (low_bits-suc x n, low_bits-suc y n, block, before, here, mul_comm (2 ^ n) (whole a b)) (omega arith)

-- a bit is 0 or 1
bit_cases : (a : ℕ) → a < 2 → (a ≡ 0) ⊎ (a ≡ 1)
bit_cases zero h = inl refl
bit_cases (suc zero) h = inr refl
bit_cases (suc (suc a)) h = absurd (omega arith)

-- two operators that agree at the four pairs of bits agree at bits
at_bits : (f g : ℕ → ℕ → ℕ) → f 0 0 ≡ g 0 0 → f 0 1 ≡ g 0 1 → f 1 0 ≡ g 1 0 → f 1 1 ≡ g 1 1
    → (a b : ℕ) → a < 2 → b < 2 → f a b ≡ g a b
at_bits f g e00 e01 e10 e11 a b p q =
    elim (bit_cases a p) [
      | inl x ↦ elim (bit_cases b q) [ inl y ↦ (cc) | inr y ↦ (cc) ]
      | inr x ↦ elim (bit_cases b q) [ inl y ↦ (cc) | inr y ↦ (cc) ]
    ]

-- `a & b` on words
pub and-word : (a b : ℕ) → a < 2 ^ 32 → b < 2 ^ 32 → bit_and a b ≡ bitwise_and a b % 2 ^ 32
and-word a b p q =
    rw (by_blocks (λ x y. x * y) bit_and and_block (at_bits (λ x y. x * y) bit_and refl refl refl refl) refl 32 a b, mod-eq_of_lt p, mod-eq_of_lt q)
    (sym (mod-eq_of_lt (omega (arith, and_le_l a b))))

-- `a | b` on words
pub or-word : (a b : ℕ) → a < 2 ^ 32 → b < 2 ^ 32 → bit_or a b ≡ bitwise_or a b % 2 ^ 32
or-word a b p q =
    rw (by_blocks max bit_or or_block (at_bits max bit_or refl refl refl refl) refl 32 a b, mod-eq_of_lt p, mod-eq_of_lt q)
    (sym (mod-eq_of_lt (or_lt 32 a b p q)))

-- `a ^ b` on words
pub xor-word : (a b : ℕ) → a < 2 ^ 32 → b < 2 ^ 32 → bit_xor a b ≡ bitwise_xor a b % 2 ^ 32
xor-word a b p q =
    rw (by_blocks (λ x y. (x + y) % 2) bit_xor xor_block (at_bits (λ x y. (x + y) % 2) bit_xor refl refl refl refl) refl 32 a b, mod-eq_of_lt p, mod-eq_of_lt q)
    (sym (mod-eq_of_lt (xor_lt 32 a b p q)))

-- the three, for the functions that compute them
pub ruleset by_bits = (and-word, or-word, xor-word)
