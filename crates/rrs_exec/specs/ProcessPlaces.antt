-- Where an address is in words that begin at a base and go upward, and in words that go downward
-- from an end, in which each word has its bytes in their order.
use Rattle.std.specs.Prelude.{ℕ, ◌+◌, ◌-◌, ◌*◌, ◌/◌, ◌%◌, ◌^◌}

-- the distance from the base; 2^32 more where the address lies before it
abbrev pub distance : ℕ → ℕ → ℕ
distance base a = (a + (2 ^ 32 - base)) % 2 ^ 32

-- the byte of its own number in the word that lies so many words before the end; 2^32 more where
-- the address does not lie before it
abbrev pub distance_below : ℕ → ℕ → ℕ
distance_below end a = 4 * ((end + (2 ^ 32 - 1 - a)) % 2 ^ 32 / 4) + a % 4
