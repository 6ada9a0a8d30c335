-- Immediates in two's complement, and the groups of bits that a word holds of them.
use Rattle.std.proofs.Common.{◌≡◌, ℕ, ◌*◌, ◌/◌, ◌%◌, ◌^◌, ◌<◌, ℤ, pos, ◌≤ℤ◌, ◌<ℤ◌, neg_ℤ, arith}
use Rattle.std.proofs.Math.IntN.{negsuc}
use Rattle.std.proofs.Math.Nat.{mod-eq_of_lt}
use Rattle.std.proofs.lemmas.Int.{ints}
use Rattle.rrs_instruction.specs.Words.{floor_mod}
use Rattle.rrs_instruction.specs.Encodings.{immediate_bits}

-- a number below h is its own remainder modulo 2 * h
pub below_modulus : (h n : ℕ) → n < h → n % (2 * h) ≡ n
below_modulus h n p = mod-eq_of_lt (omega arith)

-- an integer from -h to h - 1 is determined by its remainder modulo 2 * h
pub same_from_remainder : (h : ℕ) (y z : ℤ) → neg_ℤ (pos h) ≤ℤ y → y <ℤ pos h → neg_ℤ (pos h) ≤ℤ z → z <ℤ pos h → floor_mod y (2 * h) ≡ floor_mod z (2 * h) → y ≡ z
same_from_remainder h (pos y) (pos z) a b c d e = omega (arith, ints, below_modulus h y (omega (arith, ints)), below_modulus h z (omega (arith, ints)))
same_from_remainder h (pos y) (negsuc z) a b c d e = omega (arith, ints, below_modulus h y (omega (arith, ints)), below_modulus h z (omega (arith, ints)))
same_from_remainder h (negsuc y) (pos z) a b c d e = omega (arith, ints, below_modulus h y (omega (arith, ints)), below_modulus h z (omega (arith, ints)))
same_from_remainder h (negsuc y) (negsuc z) a b c d e = omega (arith, ints, below_modulus h y (omega (arith, ints)), below_modulus h z (omega (arith, ints)))

-- the immediate of S in two groups of bits
pub groups-S : (z : ℤ) → (floor_mod z (2 ^ 5) ≡ floor_mod z 4096 % 32) × (immediate_bits z 5 7 ≡ floor_mod z 4096 / 32)
groups-S (pos a) = (omega arith, omega arith)
groups-S (negsuc a) = (omega arith, omega arith)

-- the immediate of B in four groups of bits, and its lowest bit
pub groups-B : (z : ℤ) → (immediate_bits z 1 4 ≡ floor_mod z 8192 / 2 % 16) × (immediate_bits z 5 6 ≡ floor_mod z 8192 / 32 % 64) × (immediate_bits z 11 1 ≡ floor_mod z 8192 / 2048 % 2) × (immediate_bits z 12 1 ≡ floor_mod z 8192 / 4096) × (floor_mod z 2 ≡ floor_mod z 8192 % 2)
groups-B (pos a) = (omega arith, omega arith, omega arith, omega arith, omega arith)
groups-B (negsuc a) = (omega arith, omega arith, omega arith, omega arith, omega arith)

-- the immediate of U: its high bits, and its low ones
pub groups-U : (z : ℤ) → (immediate_bits z 12 20 ≡ floor_mod z 4294967296 / 4096) × (floor_mod z 4096 ≡ floor_mod z 4294967296 % 4096)
groups-U (pos a) = (omega arith, omega arith)
groups-U (negsuc a) = (omega arith, omega arith)

-- the immediate of J in four groups of bits, and its lowest bit
pub groups-J : (z : ℤ) → (immediate_bits z 1 10 ≡ floor_mod z 2097152 / 2 % 1024) × (immediate_bits z 11 1 ≡ floor_mod z 2097152 / 2048 % 2) × (immediate_bits z 12 8 ≡ floor_mod z 2097152 / 4096 % 256) × (immediate_bits z 20 1 ≡ floor_mod z 2097152 / 1048576) × (floor_mod z 2 ≡ floor_mod z 2097152 % 2)
groups-J (pos a) = (omega arith, omega arith, omega arith, omega arith, omega arith)
groups-J (negsuc a) = (omega arith, omega arith, omega arith, omega arith, omega arith)

-- a remainder modulo n is below n
pub floor_mod-lt : (z : ℤ) (n : ℕ) → 0 < n → floor_mod z n < n
floor_mod-lt (pos a) n h = omega arith
floor_mod-lt (negsuc a) n h = omega arith
