-- How large the sums of bits are.
use Rattle.std.proofs.Common.{◌≡◌, ℕ, zero, suc, ◌+◌, ◌*◌, ◌/◌, ◌%◌, ◌^◌, ◌<◌, ◌≤◌, ◌==◌, Bool, true, false, if◌then◌else◌, sym, subst, ap, ◌∙◌, arith}
use Rattle.std.specs.Int.Bits.{bit_xor}
use Rattle.std.proofs.lemmas.Nat.{xor_lt, pow_pos, pow_below, pow-add}
use Rattle.std.proofs.Math.Nat.{pow-le-pow_right}
use Rattle.rrs_hart.specs.Bits.{carryless, in_turn, every_other}

chosen_below : (is : Bool) (x n : ℕ) → x < 2 ^ 32 → (if is then x else 0) < 2 ^ (33 + n)
chosen_below true x n low = omega (arith, low, pow_below 32 (33 + n) (omega arith))
chosen_below false x n low = pow_pos (33 + n)

carryless_below : (n x y : ℕ) → x < 2 ^ 32 → carryless n x y < 2 ^ (32 + n)
unfolding carryless
carryless_below zero x y low = pow_pos 32
carryless_below (suc n) x y low =
    let next : 32 + suc n ≡ 33 + n = omega arith in
    let one : 33 + n ≡ 1 + (32 + n) = omega arith in
    let twice : 2 ^ (33 + n) ≡ 2 * 2 ^ (32 + n) = ap (λ k. 2 ^ k) one ∙ pow-add 2 1 (32 + n) in
    subst (λ k. bit_xor (if y % 2 == 1 then x else 0) (2 * carryless n x (y / 2)) < 2 ^ k) (sym next)
    (xor_lt (33 + n) (if y % 2 == 1 then x else 0) (2 * carryless n x (y / 2)) (chosen_below (y % 2 == 1) x n low)
    (omega (arith, twice, carryless_below n x (y / 2) low)))

-- a product of at most 31 bits has a bit to spare
pub carryless_fits : (n x y : ℕ) → n ≤ 31 → x < 2 ^ 32 → carryless n x y < 2 ^ 63
carryless_fits n x y few low =
    let up : 32 + n ≤ 63 = omega (arith, few) in
    let most : 2 ^ (32 + n) ≤ 2 ^ 63 = pow-le-pow_right (omega arith) up in
    omega (arith, most, carryless_below n x y low)

in_turn_below : (n x y : ℕ) → in_turn n x y < 4 ^ n
unfolding in_turn
in_turn_below zero x y = omega arith
in_turn_below (suc n) x y = omega (arith, in_turn_below n (x / 2) (y / 2))

pub in_turn_fits : (n x y : ℕ) → n ≤ 15 → in_turn n x y < 4 ^ 15
in_turn_fits n x y few =
    let most : 4 ^ n ≤ 4 ^ 15 = pow-le-pow_right (omega arith) few in
    omega (arith, most, in_turn_below n x y)

every_other_below : (n x : ℕ) → every_other n x < 2 ^ n
unfolding every_other
every_other_below zero x = omega arith
every_other_below (suc n) x = omega (arith, every_other_below n (x / 4))

pub every_other_fits : (n x : ℕ) → n ≤ 16 → every_other n x < 2 ^ 16
every_other_fits n x few =
    let most : 2 ^ n ≤ 2 ^ 16 = pow-le-pow_right (omega arith) few in
    omega (arith, most, every_other_below n x)
