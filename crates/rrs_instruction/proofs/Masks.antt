-- The low bits of a word.
use Rattle.std.proofs.Common.{◌≡◌, ◌∙◌, ap, ℕ, ◌-◌, ◌/◌, ◌%◌, ◌^◌, ◌≤◌, bit_and, arith}
use Rattle.std.proofs.lemmas.Nat.{and_mask}
use Rattle.std.proofs.lemmas.Nat.Bits.{ones_shr}

-- the word of ones, shifted to the right until `count` ones are left, keeps the `count` lowest bits
pub and_low_ones : (n count : ℕ) → count ≤ 32 → bit_and n (4294967295 / 2 ^ (32 - count)) ≡ n % 2 ^ count
and_low_ones n count h =
    let back : 32 - (32 - count) ≡ count = omega arith in
    let ones = ones_shr 32 (32 - count) (omega arith) ∙ ap (λ (k : ℕ). 2 ^ k - 1) back in
    ap (bit_and n) ones ∙ and_mask n count
