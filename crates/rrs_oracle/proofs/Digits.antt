-- The bounds of numbers that are read digit by digit.
use Rattle.std.proofs.Common.{ℕ, suc, ◌+◌, ◌*◌, ◌^◌, ◌<◌, ◌≤◌, arith}
use Rattle.std.proofs.Math.Nat.{pow-succ', pow-le-pow_right}
use Rattle.std.proofs.lemmas.Nat.{mul-add-lt}

-- One more digit keeps a number below the power of the base that its digits allow.
pub below_with_digit : (base i n v d : ℕ) → 0 < base → base ^ n ≤ 2 ^ 32 → i < n → v < base ^ i → d < base → v * base + d < 2 ^ 32
below_with_digit base i n v d positive room more below digit =
    let whole = mul-add-lt v base d (base ^ i) below digit in
    let longer = pow-le-pow_right positive {i = suc i} {j = n} (omega arith) in
    omega (arith, pow-succ' base i, whole, longer, room)
