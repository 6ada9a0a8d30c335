-- The pseudo-random numbers that getrandom gives: those of SplitMix64 (Steele, Lea and Flood, "Fast
-- Splittable Pseudorandom Number Generators", 2014), modulo 2^64. A state is one number, and the
-- first is the seed.
use Rattle.std.specs.Prelude.{ℕ, zero, suc, ◌+◌, ◌*◌, ◌/◌, ◌%◌, ◌^◌, List, [], ◌++◌, bit_xor}
use Rattle.std.specs.Int.{to_le_bytes, w64}

-- the state after another one
abbrev pub next_state : ℕ → ℕ
next_state state = (state + 0x9e3779b97f4a7c15) % 2 ^ 64

-- z xor z/2^k, times a factor
abbrev pub folded : (z k factor : ℕ) → ℕ
folded z k factor = bit_xor z (z / 2 ^ k) * factor % 2 ^ 64

-- the number that a state gives
abbrev pub number_of : ℕ → ℕ
number_of state =
    let z = folded (folded state 30 0xbf58476d1ce4e5b9) 27 0x94d049bb133111eb in
    bit_xor z (z / 2 ^ 31)

-- the state after n numbers from a seed
unfoldable pub state_after : (seed n : ℕ) → ℕ
state_after seed zero = seed
state_after seed (suc n) = next_state (state_after seed n)

-- The bytes of the n numbers from a seed, one number after another. Each has 8, the lowest first.
unfoldable pub random_bytes : (seed n : ℕ) → List ℕ
random_bytes seed zero = []
random_bytes seed (suc n) =
    random_bytes seed n ++ to_le_bytes w64 (number_of (state_after seed (suc n)))
